-- The outcomes of a round in the order in which they are visited, each as a state with a choice for each atom.
use Rattle.std.proofs.Common.{◌≡◌, ℕ, zero, suc, ◌+◌, ◌<◌, Bool, true, false, cond, not, ◌||◌, List, [], ◌∷◌, ◌++◌, map, length, take, set, replicate, None, Some, Option, sym, refl, ap, ◌∙◌, append_assoc, append-nil, add-one, arith, length-set, take_all, take-suc-set}
use Rattle.std.specs.List.{range_with_len, flat_map}
use Rattle.model.specs.Meanings.{OutlineFacts, Meaning}
use Rattle.model.specs.States.{value, nothing}
use Rattle.sealing.specs.Orders.{atom_at}
use Rattle.theory.specs.Enumerations.{below, ranges}
use Rattle.units.specs.Sealing.{is_external, values_at}
use Rattle.units.specs.Units.{kind_of_round, old_state, values_made}
use Rattle.evidence.specs.Counts.{if_open, atoms_count, given_top, values_count, round_count}
use Rattle.evidence.proofs.Sums.{summary, sum_same, sum_summary, flat_same, flat_ranges, flat_ranges_none}

-- under these values and choices, by the choices of the atoms at so many places from this one on
unfoldable pub atoms_visits : Meaning → Option (List ℕ) → List ℕ → ℕ → ℕ → List ℕ → List ℕ → List (List ℕ × List ℕ)
atoms_visits m before order place zero new row = (new, row) ∷ []
atoms_visits m before order place (suc left) new row =
    flat_map (λ k. cond (m.acts.opens (kind_of_round before) (atom_at order place) k (value (old_state before)) (value new)) (atoms_visits m before order (place + 1) left (values_made m before new (atom_at order place) k) (set row (atom_at order place) k)) [])
    (below (m.acts.choices (kind_of_round before) (atom_at order place)))

abbrev pub is_outer : OutlineFacts → ℕ → Bool
is_outer o n = is_external (o.kind n)

abbrev pub no_choices : Meaning → List ℕ
no_choices m = replicate m.outline.atoms 0

unfoldable pub visits : Meaning → Option (List ℕ) → List ℕ → List (List ℕ × List ℕ)
visits m before order = flat_map (λ given. atoms_visits m before order 0 m.outline.atoms given (no_choices m)) (values_at m.outline (is_outer m.outline))

module _ (m : Meaning) (before : Option (List ℕ)) (listed : List ℕ → Bool) (order : List ℕ) where
  -- the state is listed
  abbrev in_list : List ℕ × List ℕ → Bool
  in_list p = listed p.0

  atoms_summed : (left place : ℕ) (new row : List ℕ) → atoms_count m before listed order place left new ≡ summary in_list (atoms_visits m before order place left new row)
  unfolding atoms_count atoms_visits
  atoms_summed zero place new row = leaf (listed new)
    where
      leaf : (b : Bool) → cond {A = Option ℕ} b (Some 1) None ≡ cond {A = Option ℕ} (not b || false) None (Some 1)
      leaf true = refl
      leaf false = refl
  atoms_summed (suc left) place new row =
      sum_same _ (λ k. summary in_list (cond (opened k) (under k) [])) many (λ k _. each k (opened k) (atoms_summed left (place + 1) (values_made m before new a k) (set row a k)))
      ∙ sum_summary in_list (λ k. cond (opened k) (under k) []) many
    where
      a : ℕ
      a = atom_at order place

      many : ℕ
      many = m.acts.choices (kind_of_round before) a

      opened : ℕ → Bool
      opened k = m.acts.opens (kind_of_round before) a k (value (old_state before)) (value new)

      under : ℕ → List (List ℕ × List ℕ)
      under k = atoms_visits m before order (place + 1) left (values_made m before new a k) (set row a k)

      each : (k : ℕ) (b : Bool) → atoms_count m before listed order (place + 1) left (values_made m before new a k) ≡ summary in_list (under k) →
          if_open b (atoms_count m before listed order (place + 1) left (values_made m before new a k)) ≡ summary in_list (cond b (under k) [])
      each k true e = e
      each k false e = refl

  joined_row : (j v : ℕ) (xs r : List ℕ) → j < length xs → take (j + 1) (set xs j v) ++ r ≡ take j xs ++ (v ∷ r)
  joined_row j v xs r h = ap (λ t. t ++ r) (ap (λ k. take k (set xs j v)) (add-one j) ∙ take-suc-set xs j v h) ∙ append_assoc (take j xs) (v ∷ []) r

  -- all visits under the values of a row
  abbrev from : List ℕ → List (List ℕ × List ℕ)
  from given = atoms_visits m before order 0 m.outline.atoms given (no_choices m)

  values_summed : (left name : ℕ) (new : List ℕ) → name + left ≡ 32 → length new ≡ 32 →
      values_count m before listed order name left new ≡ summary in_list (flat_map (λ r. from (take name new ++ r)) (ranges (map (given_top m.outline) (range_with_len name left))))
  unfolding values_count
  values_summed zero name new e l =
      atoms_summed m.outline.atoms 0 new (no_choices m)
      ∙ ap (λ r. summary in_list (from r)) (sym (append-nil (take name new) ∙ take_all name new (omega arith)))
      ∙ ap (summary in_list) (sym (flat_ranges_none (λ r. from (take name new ++ r))))
  values_summed (suc left) name new e l =
      sum_same _ (λ v. summary in_list (under v)) (given_top m.outline name + 1) (λ v _. each v (values_summed left (name + 1) (set new name v) (omega arith) (length-set new name v ∙ l)))
      ∙ sum_summary in_list under (given_top m.outline name + 1)
      ∙ ap (summary in_list) (sym (flat_ranges (λ r. from (take name new ++ r)) (given_top m.outline name) (map (given_top m.outline) (range_with_len (name + 1) left))))
    where
      rows : List (List ℕ)
      rows = ranges (map (given_top m.outline) (range_with_len (name + 1) left))

      under : ℕ → List (List ℕ × List ℕ)
      under v = flat_map (λ r. from (take name new ++ (v ∷ r))) rows

      each : (v : ℕ) → values_count m before listed order (name + 1) left (set new name v) ≡ summary in_list (flat_map (λ r. from (take (name + 1) (set new name v) ++ r)) rows) →
          values_count m before listed order (name + 1) left (set new name v) ≡ summary in_list (under v)
      each v h = let inside : name < length new = omega arith in h ∙ ap (summary in_list) (flat_same _ _ (λ r. ap from (joined_row name v new r inside)) rows)

  -- so the count is that of the visits
  pub round_summed : round_count m before listed order ≡ summary in_list (visits m before order)
  unfolding visits below
  round_summed = values_summed 32 0 nothing refl refl
