use Rattle.theory.proofs.Enumerations.{below_exact, distinct_below, length_below}
use Rattle.theory.proofs.Enumerations.{pairs_exact, distinct_pairs, length_pairs}
use Rattle.theory.proofs.Enumerations.{ranges_exact, distinct_ranges, length_ranges}
use Rattle.theory.proofs.Members.{kept_exact, distinct_kept}
use Rattle.theory.proofs.enumerations_are_exact.Goals as goal

pub returns : goal.returns
returns c =
    record {
      numbers = λ n. record { exactly = below_exact n; distinct = distinct_below n; count = length_below n };
      two_by_two = λ xs ys d e. record { exactly = pairs_exact xs ys; distinct = distinct_pairs xs ys d e; count = length_pairs xs ys };
      rows = λ tops. record { exactly = ranges_exact tops; distinct = distinct_ranges tops; count = length_ranges tops };
      kept = kept_exact;
      kept_distinct = distinct_kept;
    }
