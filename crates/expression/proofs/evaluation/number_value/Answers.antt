use Rattle.std.proofs.Common.{◌∙◌, w16, SFits, rules}
use Rattle.std.proofs.lemmas.Int.{to_z-of_z}
use Rattle.expression.proofs.Evaluated.{number_evaluated}
use Rattle.expression.proofs.evaluation.number_value.Goals as goal

pub returns-clause-means : goal.returns-clause-means
returns-clause-means c =
    let fit : SFits w16 c.whole_number.result = search rules in
    number_evaluated c.args.bytes.now c.args.old c.args.new _ (search rules) (search rules) (to_z-of_z w16 _ fit ∙ c.whole_number.ensures)
