use Rattle.std.proofs.Common.{◌+◌, cond, replicate, Some, None, sym, refl, ap, ◌∙◌, arith}
use Rattle.model.specs.Meanings.{OutlineFacts}
use Rattle.model.specs.States.{value}
use Rattle.units.specs.Sealing.{old_names, sights}
use Rattle.sealing.specs.Search.{failure_at, witness_if, top_at_place}
use Rattle.sealing.specs.Witnesses.{witness_at, witness_if_at}
use Rattle.sealing.specs.declared.query.Query.{Query}
use Rattle.sealing.proofs.Filling.{finds_same, all_rows, top_of_old, top_of_new, blank_zeros}
use Rattle.sealing.proofs.Finding.{Known, failure_at_same}
use Rattle.sealing.proofs.atom_in_round.AtomInRound.first_witness.Goals as goal

pub first_from-requires : goal.first_from-requires
first_from-requires g c = record { inside = omega arith; blank = blank_zeros c.args.self.now.round }

pub returns : goal.returns
returns g c =
    let m = g.D.Drawing.meaning c.args.self.now.drawing.now in
    let agree = g.met.D.Drawing.agree c.args.self.now.drawing.now in
    let r = c.args.self.now.round in
    let a = c.args.self.now.atom in
    let query : Query = record { failure = c.args.failure; atom = a; choices = c.choices.result; controlled = c.controls.result; tops = c.tops.result; ranges = c.ranges-2.result } in
    let known : Known m r a query = record {
      atom_is = refl;
      choices_are = c.choices.ensures.answer;
      controls_are = λ n. c.controls.ensures n ∙ ap (λ (o : OutlineFacts). o.controls a n) (sym agree);
      tops_are = λ n h. c.tops.ensures n h ∙ ap (λ (o : OutlineFacts). o.top n) (sym agree);
    }
    in
    c.first_from.ensures
    ∙ all_rows (witness_if (failure_at c.args.failure m.acts query)) r (value c.ranges-2.result) (λ n. cond (old_names m.outline r a n) (m.outline.top n) 0) (λ n. cond (m.outline.awaits a n) (m.outline.top n) 0)
    (λ k h. c.ranges-2.ensures k (omega arith) ∙ ap (λ (o : OutlineFacts). top_at_place o r a k) (sym agree) ∙ top_of_old m.outline r a k h)
    (λ k h. c.ranges-2.ensures (32 + k) (omega arith) ∙ ap (λ (o : OutlineFacts). top_at_place o r a (32 + k)) (sym agree) ∙ top_of_new m.outline r a k h)
    (replicate 32 0) (replicate 32 0) refl refl
    ∙ finds_same _ (witness_if_at m c.args.failure r a) (λ p. ap (λ b. cond b (Some (witness_at r p)) None) (failure_at_same m r a query known c.args.failure p)) (sights m.outline r a)
