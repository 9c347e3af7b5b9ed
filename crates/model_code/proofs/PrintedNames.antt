-- Names are apart by their first letters, and by their numbers.
use Rattle.std.proofs.Common.{arith}
use Rattle.std.proofs.lemmas.Fmt.{decimal_injective}
use Rattle.model_code.specs.PrintedNames.{NamesAreApart}

pub names_are_apart_lem : NamesAreApart
names_are_apart_lem = grind (arith, decimal_injective)
