-- Places behind what was read so far.
use Rattle.std.proofs.Common.{◌≡◌, ℕ, ◌+◌, List, [], ◌∷◌, ◌++◌, length, ap, ◌∙◌, arith, length-append}
use Rattle.std.proofs.lemmas.Grind.{flat_map-append}
use Rattle.std.specs.List.{flat_map}

-- behind one more part
pub ends_more : {X : Type 0} (form : X → List ℕ) (start k end : ℕ) (made : List X) (x : X) → k ≡ start + length (flat_map form made) → end ≡ k + length (form x) → end ≡ start + length (flat_map form (made ++ x ∷ []))
ends_more form start k end made x h e =
    let last : length (form x ++ []) ≡ length (form x) + 0 = length-append (form x) [] in
    let all : length (flat_map form (made ++ x ∷ [])) ≡ length (flat_map form made) + length (form x ++ []) = ap length (flat_map-append form made (x ∷ [])) ∙ length-append (flat_map form made) (form x ++ []) in
    omega (arith, h, e, last, all)
