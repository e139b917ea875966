use Rattle.std.proofs.Common.{rules, ◌≡◌, is_some, sym, ap, ◌∙◌, subst}
use Rattle.sealing.specs.Witnesses.{first_witness, WitnessOrNone}
use Rattle.sealing.proofs.Finding.{witness_found, witness_or_none}
use Rattle.sealing.proofs.atom_in_round.first_witness.Goals as goal

pub returns : goal.returns
returns g c =
    let m = g.D.Drawing.meaning c.args.drawing.now in
    let first : c.or_else.result ≡ first_witness m c.args.failure c.args.atom = search rules in
    record {
      first = first;
      shown = subst (WitnessOrNone m c.args.failure c.args.atom) (sym first) (witness_or_none m c.args.failure c.args.atom);
      found = ap is_some first ∙ witness_found m c.args.failure c.args.atom;
    }
