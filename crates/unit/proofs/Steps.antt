-- What a call answers and leaves is what the rules of a unit's life allow.
use Rattle.std.proofs.Common.{◌≡◌, ℕ, List, Result, ap}
use Rattle.life.specs.Promises.{reply_of}
use Rattle.life.specs.Rules.{Allows, certify_call, claim_call, number_reply, refute_call}
use Rattle.life.proofs.Claims.{certify_rules, claim_rules, refute_rules}
use Rattle.units.specs.Units.{UnitModel, certify, claim, refute}
use Rattle.units.specs.declared.refusal.Refusal.{Refusal}
use Rattle.unit.specs.Calls.{answer_of}

module _ (u w : UnitModel) (bs : List ℕ) (r : Result ℕ Refusal) where
  pub claim_allowed : answer_of r ≡ (claim u bs).answer → w ≡ (claim u bs).unit → Allows u (claim_call bs) (reply_of number_reply (answer_of r)) w
  claim_allowed answer unit = (claim_rules u bs (reply_of number_reply (answer_of r)) w).1 (record { answered = ap (reply_of number_reply) answer; left = unit })

  module _ (number : ℕ) where
    pub certify_allowed : answer_of r ≡ (certify u number bs).answer → w ≡ (certify u number bs).unit → Allows u (certify_call number bs) (reply_of number_reply (answer_of r)) w
    certify_allowed answer unit = (certify_rules u number bs (reply_of number_reply (answer_of r)) w).1 (record { answered = ap (reply_of number_reply) answer; left = unit })

    pub refute_allowed : answer_of r ≡ (refute u number bs).answer → w ≡ (refute u number bs).unit → Allows u (refute_call number bs) (reply_of number_reply (answer_of r)) w
    refute_allowed answer unit = (refute_rules u number bs (reply_of number_reply (answer_of r)) w).1 (record { answered = ap (reply_of number_reply) answer; left = unit })
