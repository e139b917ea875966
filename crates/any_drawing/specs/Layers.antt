-- The top layer of a tree, apart from the trees below it.
use Rattle.std.specs.Prelude.{◌≡◌, ℕ, ◌<◌, Some}
use Rattle.model.specs.Meanings.{OutlineFacts, ChoiceFacts}
use Rattle.composition.specs.Acts.{acts_with, renamed_choices, joined_choices}
use Rattle.composition.specs.Outlines.{outline_with, renamed_tables, hidden_tables, joined_tables}
use Rattle.gates.specs.GateLists.{meaning_of as gates_meaning}
use Rattle.table.specs.Table.{meaning_of as table_meaning}
use Rattle.any_drawing.specs.Piles.{Pile, pile_meaning, pile_outline, height}
use Rattle.any_drawing.specs.declared.tree.layer.Layer.{Layer}
use Rattle.any_drawing.specs.declared.tree.layer.Layer.TheVariants.{Faulty, Table, Gates, Join, Rename, Hide}

-- a tree with these tables and choices
pub record Tells (t : Pile) (o : OutlineFacts) (c : ChoiceFacts) : Type 0 where
  pub outline : pile_outline t ≡ o
  pub acts : (pile_meaning t).acts ≡ c

pub record IsJoin (t left right : Pile) (count : ℕ) : Type 0 where
  pub tells : Tells t (joined_tables (pile_outline left) (pile_outline right)) (joined_choices count (pile_meaning left).acts (pile_meaning right).acts)
  pub counted : count ≡ (pile_outline left).atoms
  pub left_smaller : height left < height t
  pub right_smaller : height right < height t

pub record IsRename (t below : Pile) (a b : ℕ) : Type 0 where
  pub tells : Tells t (renamed_tables (pile_outline below) a b) (renamed_choices (pile_meaning below).acts a b)
  pub smaller : height below < height t

pub record IsHide (t below : Pile) (name : ℕ) : Type 0 where
  pub tells : Tells t (hidden_tables (pile_outline below) name) (pile_meaning below).acts
  pub smaller : height below < height t

-- the layer is the top one of the tree; the trees below it are smaller
abbrev pub IsTop : Pile → Layer → Type 0
IsTop t (Faulty f) = Tells t (outline_with (Some f) (pile_outline t)) (acts_with (Some f) (pile_meaning t).acts)
IsTop t (Table table) = pile_meaning t ≡ table_meaning table.now
IsTop t (Gates list) = pile_meaning t ≡ gates_meaning list.now
IsTop t (Join left right count) = IsJoin t left.now right.now count
IsTop t (Rename below e) = IsRename t below.now e.one e.other
IsTop t (Hide below name) = IsHide t below.now name
