-- Two variables, or two faults, are equal in at most one way.
use Rattle.std.proofs.Common.{◌≡◌, ℕ, cond, eqb, List, [], ◌∷◌, length, get_or, Some, None, Option, sym, refl, ap, ◌∙◌}
use mathlib.Core.HLevel.{collapsible→set}
use base.Stored.{Coded-set, coded_ℕ, coded_list}
use Rattle.model.specs.declared.Fault.{Fault}
use Rattle.model.specs.declared.Kind.{Kind}
use Rattle.model.specs.declared.Kind.TheVariants.{Private, Interface, External}
use Rattle.table.specs.declared.variables.Variable.{Variable}

-- so are those of any type whose values a list of numbers tells apart
told_apart : {A : Type 0} (code : A → List ℕ) (meant : List ℕ → A) → ((x : A) → meant (code x) ≡ x) → IsSet A
told_apart {A} code meant back = collapsible→set (λ x y p. inj x y (ap code p)) (λ x y p q. ap (inj x y) (Coded-set (coded_list coded_ℕ) (code x) (code y) (ap code p) (ap code q)))
  where
    inj : (x y : A) → code x ≡ code y → x ≡ y
    inj x y e = sym (back x) ∙ ap meant e ∙ back y

kind_code : Kind → ℕ
kind_code Private = 0
kind_code Interface = 1
kind_code External = 2

kind_meant : ℕ → Kind
kind_meant n = get_or (Private ∷ Interface ∷ External ∷ []) n Private

variable_code : Option Variable → List ℕ
variable_code None = []
variable_code (Some v) = kind_code v.kind ∷ v.top ∷ []

variable_meant : List ℕ → Option Variable
variable_meant xs = cond (eqb (length xs) 0) None (Some (record { kind = kind_meant (get_or xs 0 0); top = get_or xs 1 0 }))

kind_back : (k : Kind) → kind_meant (kind_code k) ≡ k
unfolding kind_code kind_meant
kind_back Private = refl
kind_back Interface = refl
kind_back External = refl

variable_back : (v : Option Variable) → variable_meant (variable_code v) ≡ v
unfolding variable_code variable_meant
variable_back None = refl
variable_back (Some v) = ap (λ k. Some (record { kind = k; top = v.top })) (kind_back v.kind)

pub variable_set : IsSet (Option Variable)
variable_set = told_apart variable_code variable_meant variable_back

fault_code : Option Fault → List ℕ
fault_code None = []
fault_code (Some f) = f.number ∷ f.layer ∷ f.place ∷ []

fault_meant : List ℕ → Option Fault
fault_meant xs = cond (eqb (length xs) 0) None (Some (record { number = get_or xs 0 0; layer = get_or xs 1 0; place = get_or xs 2 0 }))

fault_back : (f : Option Fault) → fault_meant (fault_code f) ≡ f
unfolding fault_code fault_meant
fault_back None = refl
fault_back (Some f) = refl

pub fault_set : IsSet (Option Fault)
fault_set = told_apart fault_code fault_meant fault_back
