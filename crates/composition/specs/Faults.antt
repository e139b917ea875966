-- What is wrong with a rename, a hide or a join, and in which layer. Layers are counted from the top one, 0: below it
-- comes the whole left part, then the right; past 255 is told as 255.
use Rattle.std.specs.Prelude.{ℕ, ◌+◌, min, Bool, true, false, cond, not, ◌&&◌, ◌||◌, is_some, Some, None, Option, ◌==◌, nat_lt}
use Rattle.std.specs.Option.{option_or, option_map}
use Rattle.model.specs.Faults.{own}
use Rattle.model.specs.Meanings.{OutlineFacts}
use Rattle.model.specs.Tests.{lowest}
use Rattle.model.specs.declared.Fault.{Fault}
use Rattle.model.specs.declared.Kind.{Kind}
use Rattle.model.specs.declared.Kind.TheVariants.{Private, Interface, External}

abbrev pub is_private : Option Kind → Bool
is_private None = false
is_private (Some Private) = true
is_private (Some Interface) = false
is_private (Some External) = false

abbrev pub is_interface : Option Kind → Bool
is_interface None = false
is_interface (Some Private) = false
is_interface (Some Interface) = true
is_interface (Some External) = false

-- the old name is absent, or the new one is present or no name
abbrev pub rename_fault : OutlineFacts → ℕ → ℕ → Option Fault
rename_fault o a b = cond (not (is_some (o.kind a)) || is_some (o.kind b) || nat_lt 31 b) (Some (own 7 a)) None

-- it is not an interface name
abbrev pub hide_fault : OutlineFacts → ℕ → Option Fault
hide_fault o n = cond (is_interface (o.kind n)) None (Some (own 8 n))

-- private in one and there in the other, or interface in both
abbrev pub clash : Option Kind → Option Kind → Bool
clash j k = is_private j && is_some k || is_private k && is_some j || is_interface j && is_interface k

abbrev pub clashes : OutlineFacts → OutlineFacts → ℕ → Bool
clashes l r n = clash (l.kind n) (r.kind n)

-- the name is shared, with two tops
abbrev pub differs : OutlineFacts → OutlineFacts → ℕ → Bool
differs l r n = is_some (l.kind n) && is_some (r.kind n) && not (l.top n == r.top n)

abbrev pub join_fault : OutlineFacts → OutlineFacts → Option Fault
join_fault l r =
    option_or (option_map (own 9) (lowest (clashes l r) 32))
    (option_or (option_map (own 10) (lowest (differs l r) 32))
    (cond (nat_lt 16 (l.atoms + r.atoms)) (Some (own 11 0)) None))

-- as many layers, or as deep a one, as can be told
abbrev pub up_to_255 : ℕ → ℕ
up_to_255 layer = min 255 layer

-- a fault as it is told from so many layers above
abbrev pub deeper : ℕ → Fault → Fault
deeper by f = record { number = f.number; layer = up_to_255 (by + f.layer); place = f.place }

abbrev pub raised : ℕ → Option Fault → Option Fault
raised by f = option_map (deeper by) f

-- what is wrong with the whole: a fault below comes before a layer's own, left before right
abbrev pub fault_of_renamed : OutlineFacts → ℕ → ℕ → Option Fault
fault_of_renamed o a b = option_or (raised 1 o.fault) (rename_fault o a b)

abbrev pub fault_of_hidden : OutlineFacts → ℕ → Option Fault
fault_of_hidden o n = option_or (raised 1 o.fault) (hide_fault o n)

abbrev pub fault_of_joined : OutlineFacts → OutlineFacts → Option Fault
fault_of_joined l r = option_or (raised 1 l.fault) (option_or (raised (1 + l.layers) r.fault) (join_fault l r))
