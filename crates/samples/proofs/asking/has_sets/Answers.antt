use mathlib.Core.Path.{fun_ext}
use Rattle.std.proofs.Common.{◌≡◌, ℕ, Bool, true, ◌&&◌, List, refl, sym, ap, ◌∙◌}
use Rattle.samples.specs.Listed.{passes_just}
use Rattle.samples.proofs.asking.has_sets.Goals as goal

same : (p q : ℕ → Bool) (numbers : List ℕ) → ((n : ℕ) → p n ≡ q n) → passes_just p numbers ≡ passes_just q numbers
same p q numbers h = ap (λ f. passes_just f numbers) (fun_ext h)

last_one : (a b c r : Bool) → a ≡ true → b ≡ true → r ≡ c → r ≡ (a && b && c)
last_one a b c r ha hb hr = hr ∙ rw ha (rw hb refl)

pub returns-then-reads : goal.returns-then-reads
returns-then-reads g c =
    let controlled = same _ _ c.args.controlled.now c.controls.ensures in
    let read = same _ _ c.args.read.now c.reads.ensures in
    let awaited = same _ _ c.args.awaited.now c.awaits.ensures in
    last_one _ _ _ _ (sym (c.is_just-controls.ensures ∙ controlled) ∙ c.if-reads.true.0) (sym (c.is_just-reads.ensures ∙ read) ∙ c.if-reads.true.1) (c.is_just-awaits.ensures ∙ awaited)
