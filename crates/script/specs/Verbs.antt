-- The words that commands begin with.
use Rattle.std.specs.Prelude.{ℕ, cond, List, Some, None, codes, Option}
use Rattle.std.specs.Str.{bytes_eq}
use Rattle.script.specs.declared.verb.Verb.{Verb}
use Rattle.script.specs.declared.verb.Verb.TheVariants.{New, Table, Gates, Join, Rename, Hide, Seal, Verdict, Outline, Ask}

-- what the word begins, if anything
abbrev pub verb_of : List ℕ → Option Verb
verb_of w =
    cond (bytes_eq w (codes "new")) (Some New)
    (cond (bytes_eq w (codes "table")) (Some Table)
    (cond (bytes_eq w (codes "gates")) (Some Gates)
    (cond (bytes_eq w (codes "join")) (Some Join)
    (cond (bytes_eq w (codes "rename")) (Some Rename)
    (cond (bytes_eq w (codes "hide")) (Some Hide)
    (cond (bytes_eq w (codes "seal")) (Some Seal)
    (cond (bytes_eq w (codes "verdict")) (Some Verdict)
    (cond (bytes_eq w (codes "outline")) (Some Outline)
    (cond (bytes_eq w (codes "ask")) (Some Ask) None)))))))))

-- how many words a command wants after its own
abbrev pub words_wanted : Verb → ℕ
words_wanted New = 0
words_wanted Table = 2
words_wanted Gates = 2
words_wanted Join = 3
words_wanted Rename = 4
words_wanted Hide = 3
words_wanted Seal = 3
words_wanted Verdict = 1
words_wanted Outline = 1
words_wanted Ask = 6
