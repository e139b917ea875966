-- Every unit that can come from the site is good, at every point of its life.
use Rattle.std.proofs.Common.{◌≡◌, ℕ, List, Some, None, subst, arith}
use Rattle.std.specs.List.{AllByRecursion as All}
use Rattle.model.specs.Meanings.{Meaning}
use Rattle.units.specs.Promises.{Sound, EveryUnitFromTheSiteIsSound}
use Rattle.units.specs.Units.{UnitModel, Claim, Phase, idle, standing, in_round, standing_state}
use Rattle.units.specs.Life.{Came, by_seal, by_claim, by_certify, by_refute, by_open, by_fire, by_end, by_stop, by_rename, by_hide, by_join}
use Rattle.units.proofs.Calls.{ReachedBefore, PhaseRight, Good, seal_good, claim_good, certify_good, refute_good, open_good, fire_good, end_good, stop_good, rename_good, hide_good, join_good}
use Rattle.units.proofs.Claims.{HoldsThroughout, Right, all_nth}
use Rattle.units.proofs.FoundEvidence.{evidence_had}

pub came_good : {u : UnitModel} → Came u → Good u
came_good (by_seal m number) = seal_good m number
came_good (by_claim u bytes h) = claim_good u bytes (came_good h)
came_good (by_certify u i bytes h) = certify_good u i bytes (came_good h)
came_good (by_refute u i bytes h) = refute_good u i bytes (came_good h)
came_good (by_open u given long h) = open_good u given long (came_good h)
came_good (by_fire u slip atom choice h) = fire_good u slip atom choice (came_good h)
came_good (by_end u slip h) = end_good u slip (came_good h)
came_good (by_stop u h) = stop_good u (came_good h)
came_good (by_rename u a b h) = rename_good u a b (came_good h)
came_good (by_hide u name h) = hide_good u name (came_good h)
came_good (by_join l r h k) = join_good l r (came_good h) (came_good k)

none≢some : {X : Type 0} (x : X) → None ≡ Some x → ⊥
none≢some x e = let z : ◌≡◌ {A = ℕ} 0 1 = cc in omega arith

standing_right : (m : Meaning) (cs : List Claim) (p : Phase) (s : List ℕ) → PhaseRight m cs p → standing_state p ≡ Some s → All (HoldsThroughout m) cs × ReachedBefore m (Some s)
standing_right m cs idle s h e = absurd (none≢some s e)
standing_right m cs (standing t) s h e = let same : t ≡ s = cc in (h.0, subst (λ x. ReachedBefore m (Some x)) same h.1)
standing_right m cs (in_round before new fired) s h e = (h.0, subst (ReachedBefore m) e h.1)

pub good_is_sound : (u : UnitModel) → Good u → Sound u
good_is_sound u good = record {
  marks = λ i c e. (all_nth (Right u.meaning) u.claims i c good.claims_right e).marked;
  state = λ s e.
      let k = standing_right u.meaning u.claims u.phase s good.phase_right e in
      record { reached = k.1; claims_hold = λ i c there. all_nth (HoldsThroughout u.meaning) u.claims i c k.0 there s k.1 };
  evidence = λ fine all distinct exact few i c there. evidence_had u fine i c there all exact few;
}

pub every_unit_sound : EveryUnitFromTheSiteIsSound
every_unit_sound u h = good_is_sound u (came_good h)
