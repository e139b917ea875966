-- A claim under another mark.
use Rattle.std.proofs.Common.{◌≡◌, ℕ, zero, suc, true, List, [], ◌∷◌, map, Some, slice_get, slice_set, sym, refl, ap, ◌∙◌, subst, length, ◌≤◌, arith}
use Rattle.std.proofs.lemmas.Bool.{false≢true}
use Rattle.model.specs.Rows.{row_items}
use Rattle.unit.specs.Claims.{claim_of, mark_of}
use Rattle.unit.specs.Truths.{is_good, read, truth_of, is_truth}
use Rattle.unit.specs.declared.claims.Claim.{Claim}
use Rattle.unit.specs.declared.claims.Mark.{Mark}
use Rattle.language.specs.Expressions.{Reading, good, bad, Truth, whole_truth}
use Rattle.expression.specs.Evaluation.{everything}
use Rattle.units.specs.Units.{claims_marked}
use Rattle.units.specs.Units as units

-- what was read is the same, whatever shows that it is good
pub read_same : {X : Type 0} (r : Reading X) (h k : is_good r ≡ true) → read r h ≡ read r k
read_same (good x end) h k = refl
read_same (bad place) h k = absurd (false≢true h)

pub truth_same : (bs cs : List ℕ) → bs ≡ cs → (h : is_truth bs ≡ true) (k : is_truth cs ≡ true) → truth_of bs h ≡ truth_of cs k
truth_same bs cs e h = subst (λ xs. (k : is_truth xs ≡ true) → truth_of bs h ≡ truth_of xs k) e (λ k. read_same (whole_truth 8 everything bs) h k)

pub same_claim : (p q : Truth) (a b : units.Mark) → p ≡ q → a ≡ b → ◌≡◌ {A = units.Claim} (record { says = p; mark = a }) (record { says = q; mark = b })
same_claim p q a b e f = cc

-- under another mark a claim says what it said
pub claim_marked : (c d : Claim) (mark : Mark) → d.bytes ≡ c.bytes → d.mark ≡ mark → claim_of d ≡ record { says = (claim_of c).says; mark = mark_of mark }
claim_marked c d mark bytes marked =
    let says : (claim_of d).says ≡ (claim_of c).says = truth_same (row_items d.bytes) (row_items c.bytes) (ap row_items bytes) d.right c.right in
    same_claim _ _ _ _ says (ap mark_of marked)

pub table_marked : (cs : List Claim) (number : ℕ) (c d : Claim) (mark : Mark) → slice_get cs number ≡ Some c → d.bytes ≡ c.bytes → d.mark ≡ mark → map claim_of (slice_set cs number d) ≡ claims_marked number (mark_of mark) (map claim_of cs)
table_marked [] number c d mark there bytes marked = refl
table_marked (x ∷ xs) zero c d mark there bytes marked =
    let same : x ≡ c = cc in
    let changed : claim_of d ≡ record { says = (claim_of x).says; mark = mark_of mark } = claim_marked x d mark (bytes ∙ sym (ap (λ claim. claim.bytes) same)) marked in
    ap (λ first. first ∷ map claim_of xs) changed
table_marked (x ∷ xs) (suc number) c d mark there bytes marked = ap (λ rest. claim_of x ∷ rest) (table_marked xs number c d mark there bytes marked)

-- where there is no such claim, none is marked
pub marked_beyond : (cs : List Claim) (number : ℕ) (mark : Mark) → length cs ≤ number → claims_marked number (mark_of mark) (map claim_of cs) ≡ map claim_of cs
marked_beyond [] number mark there = refl
marked_beyond (x ∷ xs) zero mark there = absurd (omega arith)
marked_beyond (x ∷ xs) (suc number) mark there = ap (λ rest. claim_of x ∷ rest) (marked_beyond xs number mark (omega arith))

pub written_same : (cs : List Claim) (number : ℕ) (c d : Claim) → slice_get cs number ≡ Some c → d.bytes ≡ c.bytes → map (λ x. row_items x.bytes) (slice_set cs number d) ≡ map (λ x. row_items x.bytes) cs
written_same [] number c d there bytes = refl
written_same (x ∷ xs) zero c d there bytes =
    let same : x ≡ c = cc in
    ap (λ first. first ∷ map (λ y. row_items y.bytes) xs) (ap row_items (bytes ∙ sym (ap (λ y. y.bytes) same)))
written_same (x ∷ xs) (suc number) c d there bytes = ap (λ rest. row_items x.bytes ∷ rest) (written_same xs number c d there bytes)
