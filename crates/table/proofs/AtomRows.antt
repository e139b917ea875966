-- An atom that is read, part by part.
use Rattle.std.proofs.Common.{◌≡◌, ℕ, ◌+◌, Bool, List, length, Ok, Err, Result, ap, ◌∙◌, subst, arith}
use Rattle.language.specs.Expressions.{Seen}
use Rattle.language.specs.declared.rules.Rule.{Rule}
use Rattle.language.specs.declared.rules.Rule.TheVariants.{WrongAtom}
use Rattle.language.specs.laws.Reading.{choice_read, limited_read, many_read, set_read}
use Rattle.language.specs.Tables.{TableVariable, size, seen_in, names_own, names_variables, between, byte_item, set_item, many, read_choice, read_atom, choice_bytes, ChoiceRight}
use Rattle.model.specs.Meanings.{most_choices}
use Rattle.model.specs.declared.Fault.{Fault}
use Rattle.model.specs.declared.Round.{Round}
use Rattle.model.specs.declared.Round.TheVariants.{Initial, Update}
use Rattle.model.specs.Sets.{NameSet}
use Rattle.model.specs.declared.row.Row.{Row}
use Rattle.table.specs.Layouts.{AreChoicesAt, IsAtomAt}
use Rattle.table.specs.Places.{choices_end}
use Rattle.table.specs.Reads.{Tells, Reads}
use Rattle.table.specs.Sets.{NamesOf}
use Rattle.table.specs.declared.parts.AtomLayout.{AtomLayout}
use Rattle.table.specs.declared.reader.Reader.{Reader}
use Rattle.table.proofs.Answered.{told_fine, then_stop, then_go, then_done, tell_stop, tell_go}

-- choices by where they begin, what they see and how many names they give to, of the bytes that another reader has too
pub choices_by : (first : Reader) {old new : Reader} {result : Result (Row ℕ 8) Fault} (start : ℕ) (s t : Seen) (n m all : ℕ) → old.bytes ≡ first.bytes → old.place ≡ start → s ≡ t → n ≡ m → Reads (AreChoicesAt old.bytes.now old.place s n) (many (read_choice s n) all) old new result → Reads (AreChoicesAt first.bytes.now start t m) (many (read_choice t m) all) old new result
choices_by first {old} {new} {result} start s t n m all b p e h r =
    subst (λ i. Reads (AreChoicesAt first.bytes.now start t i) (many (read_choice t i) all) old new result) h
    (subst (λ u. Reads (AreChoicesAt first.bytes.now start u n) (many (read_choice u n) all) old new result) e
    (subst (λ k. Reads (AreChoicesAt first.bytes.now k s n) (many (read_choice s n) all) old new result) p
    (subst (λ a. Reads (AreChoicesAt a.now old.place s n) (many (read_choice s n) all) old new result) b r)))

-- where a set ends, and where a byte does
set_ends : {old new : Reader} {names : NameSet} (test : ℕ → Bool) → Reads NamesOf (set_item test) old new (Ok names) → new.place ≡ old.place + 4
set_ends {old} {new} test r = (set_read test old.bytes.now old.place r.outcome.part new.place r.outcome.read).ends

pub byte_ends : {old new : Reader} {b : ℕ} (rule : Rule) (low high : ℕ) → Tells (byte_item rule (between low high)) old new (Ok b) → new.place ≡ old.place + 1
byte_ends {old} {new} {b} rule low high r =
    (limited_read rule low high old.bytes.now old.place b new.place (told_fine (length old.bytes.now) (byte_item rule (between low high) old.bytes.now old.place) b new.place r.outcome)).ends

module _ (vs : List TableVariable) (r0 : Reader) where
  -- what reading the atom gives
  abbrev Gives : Reader → Result AtomLayout Fault → Type 0
  Gives = Reads (IsAtomAt r0.bytes.now r0.place) (read_atom vs) r0

  pub controls_stop : {r : Reader} {fault : Fault} → Reads NamesOf (set_item (names_own vs)) r0 r (Err fault) → Gives r (Err fault)
  unfolding read_atom
  controls_stop s = then_stop _ s

  module _ {r1 : Reader} {controls : NameSet} (c : Reads NamesOf (set_item (names_own vs)) r0 r1 (Ok controls)) where
    pub reads_stop : {r : Reader} {fault : Fault} → Reads NamesOf (set_item (names_variables vs)) r1 r (Err fault) → Gives r (Err fault)
    unfolding read_atom
    reads_stop s = then_go _ c (then_stop _ s)

    module _ {r2 : Reader} {reads : NameSet} (d : Reads NamesOf (set_item (names_variables vs)) r1 r2 (Ok reads)) where
      pub awaits_stop : {r : Reader} {fault : Fault} → Reads NamesOf (set_item (names_variables vs)) r2 r (Err fault) → Gives r (Err fault)
      unfolding read_atom
      awaits_stop s = then_go _ c (then_go _ d (then_stop _ s))

      module _ {r3 : Reader} {awaits : NameSet} (e : Reads NamesOf (set_item (names_variables vs)) r2 r3 (Ok awaits)) where
        pub initials_stop : {r : Reader} {fault : Fault} → Tells (byte_item WrongAtom (between 1 (most_choices Initial))) r3 r (Err fault) → Gives r (Err fault)
        unfolding read_atom
        initials_stop s = then_go _ c (then_go _ d (then_go _ e (tell_stop _ s)))

        module _ {r4 : Reader} {initials : ℕ} (f : Tells (byte_item WrongAtom (between 1 (most_choices Initial))) r3 r4 (Ok initials)) where
          pub updates_stop : {r : Reader} {fault : Fault} → Tells (byte_item WrongAtom (between 1 (most_choices Update))) r4 r (Err fault) → Gives r (Err fault)
          unfolding read_atom
          updates_stop s = then_go _ c (then_go _ d (then_go _ e (tell_go _ f (tell_stop _ s))))

          module _ {r5 : Reader} {updates : ℕ} (g : Tells (byte_item WrongAtom (between 1 (most_choices Update))) r4 r5 (Ok updates)) where
            abbrev sees : Round → Seen
            sees round = seen_in round d.outcome.part e.outcome.part

            abbrev Choices : Round → ℕ → ℕ → Reader → Reader → Result (Row ℕ 8) Fault → Type 0
            Choices round start = λ n. Reads (AreChoicesAt r0.bytes.now start (sees round) (size c.outcome.part)) (many (read_choice (sees round) (size c.outcome.part)) n)

            same5 : r5.bytes ≡ r0.bytes
            same5 = g.same ∙ f.same ∙ e.same ∙ d.same ∙ c.same

            begin : ℕ
            begin = r0.place + 14

            place5 : r5.place ≡ begin
            unfolding begin
            place5 = omega (arith, set_ends (names_own vs) c, set_ends (names_variables vs) d, set_ends (names_variables vs) e, byte_ends WrongAtom 1 (most_choices Initial) f, byte_ends WrongAtom 1 (most_choices Update) g)

            -- what the choices are read by
            module _ {first : Seen} {given : ℕ} (is_first : first ≡ sees Initial) (is_given : given ≡ size c.outcome.part) where
              pub initial_stop : {r : Reader} {fault : Fault} → Reads (AreChoicesAt r5.bytes.now r5.place first given) (many (read_choice first given) initials) r5 r (Err fault) → Gives r (Err fault)
              unfolding read_atom
              initial_stop s =
                  then_go _ c (then_go _ d (then_go _ e (tell_go _ f (tell_go _ g (then_stop _ (choices_by r0 begin first (sees Initial) given (size c.outcome.part) initials same5 place5 is_first is_given s))))))

              module _ {r6 : Reader} {initial : Row ℕ 8} (i : Reads (AreChoicesAt r5.bytes.now r5.place first given) (many (read_choice first given) initials) r5 r6 (Ok initial)) {later : Seen} (is_later : later ≡ sees Update) where
                h : Choices Initial begin initials r5 r6 (Ok initial)
                h = choices_by r0 begin first (sees Initial) given (size c.outcome.part) initials same5 place5 is_first is_given i

                -- where the update choices begin
                second : ℕ
                second = choices_end begin h.outcome.part

                place6 : r6.place ≡ second
                unfolding second
                place6 =
                    let seen = sees Initial in let count = size c.outcome.part in
                    (many_read (read_choice seen count) choice_bytes (ChoiceRight seen count) (choice_read seen count) initials r5.bytes.now r5.place h.outcome.part r6.place h.outcome.read).ends
                    ∙ ap (λ k. choices_end k h.outcome.part) place5

                later_by : {r : Reader} {result : Result (Row ℕ 8) Fault} → Reads (AreChoicesAt r6.bytes.now r6.place later given) (many (read_choice later given) updates) r6 r result → Choices Update second updates r6 r result
                later_by s = choices_by r0 second later (sees Update) given (size c.outcome.part) updates (i.same ∙ same5) place6 is_later is_given s

                pub update_stop : {r : Reader} {fault : Fault} → Reads (AreChoicesAt r6.bytes.now r6.place later given) (many (read_choice later given) updates) r6 r (Err fault) → Gives r (Err fault)
                unfolding read_atom
                update_stop s = then_go _ c (then_go _ d (then_go _ e (tell_go _ f (tell_go _ g (then_go _ h (then_stop _ (later_by s)))))))

                pub atom_goes : {r7 : Reader} {update : Row ℕ 8} → Reads (AreChoicesAt r6.bytes.now r6.place later given) (many (read_choice later given) updates) r6 r7 (Ok update) → Gives r7 (Ok (record { controls = controls; reads = reads; awaits = awaits; initial = initial; update = update }))
                unfolding read_atom begin second
                atom_goes s =
                    let t = later_by s in
                    then_go _ c (then_go _ d (then_go _ e (tell_go _ f (tell_go _ g (then_go _ h (then_go _ t
                    (then_done (record { controls = c.outcome.made; reads = d.outcome.made; awaits = e.outcome.made; initial = h.outcome.made; update = t.outcome.made }))))))))
