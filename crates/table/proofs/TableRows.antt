-- A table that is read, part by part.
use Rattle.std.proofs.Common.{◌≡◌, ℕ, ◌+◌, length, Ok, ◌∙◌, subst, arith}
use Rattle.std.specs.List.{flat_map}
use Rattle.model.specs.declared.row.Row.{Row}
use Rattle.language.specs.Tables.{between, byte_item, many, read_atom, read_variables, read_table, variable_bytes}
use Rattle.language.specs.declared.rules.Rule.TheVariants.{WrongVariable, WrongAtom}
use Rattle.language.specs.laws.Reading.{variables_read}
use Rattle.table.specs.Layouts.{AreAtomsAt, IsLayout}
use Rattle.table.specs.Reads.{Tells, Reads}
use Rattle.table.specs.Variables.{AreVariables}
use Rattle.table.specs.declared.parts.AtomLayout.{AtomLayout}
use Rattle.table.specs.declared.reader.Reader.{Reader}
use Rattle.table.specs.declared.variables.Variables.{Variables}
use Rattle.table.proofs.Answered.{then_go, then_done, tell_go}
use Rattle.table.proofs.AtomRows.{byte_ends}

module _ {r0 r1 r2 r3 r4 : Reader} {width count : ℕ} {variables : Variables} {atoms : Row AtomLayout 16} (w : Tells (byte_item WrongVariable (between 0 32)) r0 r1 (Ok width)) (v : Reads AreVariables (read_variables 0 width) r1 r2 (Ok variables)) (n : Tells (byte_item WrongAtom (between 0 16)) r2 r3 (Ok count)) (a : Reads (AreAtomsAt r3.bytes.now r3.place) (many (read_atom v.outcome.part) count) r3 r4 (Ok atoms)) where
  place3 : r3.place ≡ r0.place + length (flat_map variable_bytes v.outcome.part) + 2
  place3 =
      let ends = (variables_read 0 width r1.bytes.now r1.place v.outcome.part r2.place v.outcome.read).ends in
      omega (arith, byte_ends WrongVariable 0 32 w, ends, byte_ends WrongAtom 0 16 n)

  moved : AreAtomsAt r0.bytes.now (r0.place + length (flat_map variable_bytes v.outcome.part) + 2) a.outcome.part atoms
  moved = subst (λ k. AreAtomsAt r0.bytes.now k a.outcome.part atoms) place3 (subst (λ b. AreAtomsAt b.now r3.place a.outcome.part atoms) (n.same ∙ v.same ∙ w.same) a.outcome.made)

  pub table_goes : Reads (IsLayout r0.bytes.now r0.place) read_table r0 r4 (Ok (record { variables = variables; atoms = atoms }))
  unfolding read_table
  table_goes = tell_go _ w (then_go _ v (tell_go _ n (then_go _ a (then_done (record { variables = v.outcome.made; atoms = moved })))))
