-- Hiding an interface variable of a module gives a module.
use Rattle.std.proofs.Common.{ℕ, inl, inr, ⊎_elim}
use Rattle.std.proofs.lemmas.Bool.{cases_eq}
use Rattle.reactive.specs.Operations.{hidden_module}
use Rattle.reactive.specs.Reactive.{Module, Controlled, Variable, Awaits, IsModule}
use Rattle.reactive.proofs.Same.{plus_same}

module _ (P : Module) (p : IsModule P) (x : ℕ) where
  abbrev Q : Module
  Q = hidden_module P x

  controlled_there : (n : ℕ) → Controlled Q n → Controlled P n
  controlled_there n (inl (inl h)) = inl h
  controlled_there n (inl (inr h)) = inr h.1
  controlled_there n (inr h) = inr h.0

  controlled_back : (n : ℕ) → Controlled P n → Controlled Q n
  controlled_back n (inl h) = inl (inl h)
  controlled_back n (inr h) = ⊎_elim (λ e. inl (inr (e, h))) (λ d. inr (h, d)) (cases_eq n x)

  variable_there : (n : ℕ) → Variable Q n → Variable P n
  variable_there n = ⊎_elim (λ c. inl (controlled_there n c)) inr

  variable_back : (n : ℕ) → Variable P n → Variable Q n
  variable_back n = ⊎_elim (λ c. inl (controlled_back n c)) inr

  one_kind : (n : ℕ) → Q.private n → Q.interface n → ⊥
  one_kind n (inl h) k = p.declaration.private_or_interface n h k.0
  one_kind n (inr h) k = k.1 h.0

  pub hidden_is_module : IsModule Q
  hidden_is_module =
      record {
        declaration = record {
          finite = (p.declaration.finite.0, λ n v. p.declaration.finite.1 n (variable_there n v));
          private_or_interface = one_kind;
          controlled_or_external = λ n c e. p.declaration.controlled_or_external n (controlled_there n c) e;
        };
        finite = p.finite;
        atoms = λ i. let it = p.atoms i in record {
          controls = λ n h. variable_back n (it.controls n h);
          reads = λ n h. variable_back n (it.reads n h);
          awaits = λ n h. variable_back n (it.awaits n h);
          apart = it.apart;
          init = it.init;
          update = it.update;
        };
        controls = λ n. (λ c. (p.controls n).0 (controlled_there n c), λ h. controlled_back n ((p.controls n).1 h));
        one_controller = p.one_controller;
        acyclic = λ a b h k. p.acyclic a b (plus_same (Awaits Q) (Awaits P) same a b h) (plus_same (Awaits Q) (Awaits P) same b a k);
      }
    where
      same : (a b : ℕ) → Awaits Q a b → Awaits P a b
      same a b w = record { atom = w.atom; controls = w.controls; awaits = w.awaits }
