-- Histories by the rules are exactly the lives that the definitions allow.
use Rattle.std.proofs.Common.{sym, refl, subst}
use Rattle.units.specs.Life.{Came, by_seal, by_claim, by_certify, by_refute, by_open, by_fire, by_end, by_stop, by_rename, by_hide, by_join}
use Rattle.units.specs.Models.{UnitModel}
use Rattle.units.specs.Units.{Outcome, seal, rename_unit, hide_unit, join_units, claim, certify, refute, open_round, fire, end_round, stop}
use Rattle.units.proofs.Lives.{came_good}
use Rattle.life.specs.Histories.{History, sealing, calling, renaming, hiding, joining}
use Rattle.life.specs.Promises.{Is, reply_of, Defined, Carried, TheRulesSayWhatCallsDo, TheRulesSayWhatPilesAre, HistoriesAreLives}
use Rattle.life.specs.Rules.{Call, claim_call, certify_call, refute_call, open_call, fire_call, end_call, stop_call, Reply, number_reply, slip_reply, refusal_reply, Allows}
use Rattle.life.proofs.Claims.{claim_rules, certify_rules, refute_rules, stop_rules}
use Rattle.life.proofs.Piles.{sealed_rules, renamed_rules, hidden_rules, joined_rules}
use Rattle.life.proofs.Rounds.{open_rules, fire_rules, end_rules}

pub calls_ruled : TheRulesSayWhatCallsDo
calls_ruled u came (claim_call bytes) carried reply w = claim_rules u bytes reply w
calls_ruled u came (certify_call i bytes) carried reply w = certify_rules u i bytes reply w
calls_ruled u came (refute_call i bytes) carried reply w = refute_rules u i bytes reply w
calls_ruled u came (open_call given) carried reply w = open_rules u given carried reply w
calls_ruled u came (fire_call slip a k) carried reply w = fire_rules u slip a k (came_good came) reply w
calls_ruled u came (end_call slip) carried reply w = end_rules u slip (came_good came) reply w
calls_ruled u came stop_call carried reply w = stop_rules u reply w

pub piles_ruled : TheRulesSayWhatPilesAre
piles_ruled = record {
  seals = sealed_rules;
  renames = λ u came a b w. renamed_rules u (came_good came) a b w;
  hides = λ u came n w. hidden_rules u n w;
  joins = λ l r came came' w. joined_rules l r w;
}

-- what a rule allows carried what the call can carry
carried_by : (u : UnitModel) (call : Call) (reply : Reply) (w : UnitModel) → Allows u call reply w → Carried call
carried_by u (claim_call bytes) reply w h = tt
carried_by u (certify_call i bytes) reply w h = tt
carried_by u (refute_call i bytes) reply w h = tt
carried_by u (open_call given) (number_reply n) w h = absurd h
carried_by u (open_call given) (slip_reply s) w h = h.0
carried_by u (open_call given) (refusal_reply r) w h = h.0
carried_by u (fire_call slip a k) reply w h = tt
carried_by u (end_call slip) reply w h = tt
carried_by u stop_call reply w h = tt

came_on : (u : UnitModel) → Came u → (call : Call) → Carried call → (reply : Reply) (w : UnitModel) → Defined u call reply w → Came w
came_on u came (claim_call bytes) c reply w h = subst Came (sym h.left) (by_claim u bytes came)
came_on u came (certify_call i bytes) c reply w h = subst Came (sym h.left) (by_certify u i bytes came)
came_on u came (refute_call i bytes) c reply w h = subst Came (sym h.left) (by_refute u i bytes came)
came_on u came (open_call given) c reply w h = subst Came (sym h.left) (by_open u given c came)
came_on u came (fire_call slip a k) c reply w h = subst Came (sym h.left) (by_fire u slip a k came)
came_on u came (end_call slip) c reply w h = subst Came (sym h.left) (by_end u slip came)
came_on u came stop_call c reply w h = subst Came (sym h.left) (by_stop u came)

pub history_came : (u : UnitModel) → History u → Came u
history_came _ (sealing m number w rule) = subst Came (sym ((sealed_rules m number w).0 rule)) (by_seal m number)
history_came _ (calling u call reply w h rule) =
    let came = history_came u h in
    let carried = carried_by u call reply w rule in
    came_on u came call carried reply w ((calls_ruled u came call carried reply w).0 rule)
history_came _ (renaming u a b w h rule) = let came = history_came u h in subst Came (sym ((renamed_rules u (came_good came) a b w).0 rule)) (by_rename u a b came)
history_came _ (hiding u n w h rule) = subst Came (sym ((hidden_rules u n w).0 rule)) (by_hide u n (history_came u h))
history_came _ (joining l r w h k rule) = subst Came (sym ((joined_rules l r w).0 rule)) (by_join l r (history_came l h) (history_came r k))

-- a call by its definition goes on with a history
goes_on : (u : UnitModel) → Came u → History u → (call : Call) → Carried call → (reply : Reply) (w : UnitModel) → Defined u call reply w → History w
goes_on u came h call carried reply w d = calling u call reply w h ((calls_ruled u came call carried reply w).1 d)

is_itself : {A : Type 0} (told : A → Reply) (o : Outcome A) → Is told o (reply_of told o.answer) o.unit
is_itself told o = record { answered = refl; left = refl }

pub came_history : (u : UnitModel) → Came u → History u
came_history _ (by_seal m number) = sealing m number (seal m number) ((sealed_rules m number (seal m number)).1 refl)
came_history _ (by_claim u bytes h) = goes_on u h (came_history u h) (claim_call bytes) tt _ _ (is_itself number_reply (claim u bytes))
came_history _ (by_certify u i bytes h) = goes_on u h (came_history u h) (certify_call i bytes) tt _ _ (is_itself number_reply (certify u i bytes))
came_history _ (by_refute u i bytes h) = goes_on u h (came_history u h) (refute_call i bytes) tt _ _ (is_itself number_reply (refute u i bytes))
came_history _ (by_open u given long h) = goes_on u h (came_history u h) (open_call given) long _ _ (is_itself slip_reply (open_round u given))
came_history _ (by_fire u slip atom choice h) = goes_on u h (came_history u h) (fire_call slip atom choice) tt _ _ (is_itself number_reply (fire u slip atom choice))
came_history _ (by_end u slip h) = goes_on u h (came_history u h) (end_call slip) tt _ _ (is_itself number_reply (end_round u slip))
came_history _ (by_stop u h) = goes_on u h (came_history u h) stop_call tt _ _ (is_itself number_reply (stop u))
came_history _ (by_rename u a b h) = renaming u a b (rename_unit u a b) (came_history u h) ((renamed_rules u (came_good h) a b (rename_unit u a b)).1 refl)
came_history _ (by_hide u n h) = hiding u n (hide_unit u n) (came_history u h) ((hidden_rules u n (hide_unit u n)).1 refl)
came_history _ (by_join l r h k) = joining l r (join_units l r) (came_history l h) (came_history r k) ((joined_rules l r (join_units l r)).1 refl)

pub histories_lives : HistoriesAreLives
histories_lives u = (history_came u, came_history u)
