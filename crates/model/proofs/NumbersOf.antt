-- Names that stand once are found at their numbers, and a type environment that shows given types is read as these.
use Rattle.std.proofs.Common.{ℕ, List, refl, arith}
use Rattle.std.proofs.lemmas.Grind.{common_steps}
use Rattle.std.proofs.lemmas.Option.{none-some, same_Some}
use Rattle.model.specs.lists.Names.{number_if_met, AreNumbersOf, IsDistinct}
use Rattle.model.specs.claims.Environments.{TypesRead, environment_of, IsReadAs}
use Rattle.model.proofs.Names.{found, has_at}

pub numbers_of : (names : List (List ℕ)) → IsDistinct names → AreNumbersOf names (number_if_met names)
numbers_of names once = grind (arith, common_steps, has_at names, found names, has_at, found, same_Some, none-some)

pub environments_are_read : (e : TypesRead) → IsDistinct e.known.names → IsReadAs (environment_of e) e
environments_are_read e once = record { names = refl; inverse = numbers_of e.known.names once; types = refl; look_ups = λ k. refl; constants = λ k. refl; no_errors = refl }
