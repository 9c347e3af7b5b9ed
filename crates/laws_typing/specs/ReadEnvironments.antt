-- That types are as they were in an environment that has met more names.
use Rattle.std.specs.Prelude.{◌≡◌, ℕ, List, ◌++◌}
use Rattle.model.specs.claims.Environments.{TypesRead, AreReadable, TypeEnvironment, IsReadAs, environment_of, with_read_names}

-- types that can be read are shown by some environment
abbrev pub TypesAreShown : Type 0
TypesAreShown = (e : TypesRead) → AreReadable e → IsReadAs (environment_of e) e

-- with more names, types and constants are those that were there, and so are their look-ups
abbrev pub TypesStay : Type 0
TypesStay =
    (e : TypesRead) (before after : TypeEnvironment) (more : List (List ℕ)) → AreReadable e → IsReadAs before e → IsReadAs after (with_read_names e (e.known.names ++ more))
    → (after.types ≡ before.types) × ((k : ℕ) → after.type_of k ≡ before.type_of k) × ((k : ℕ) → after.constant_type_of k ≡ before.constant_type_of k) × (after.errors ≡ before.errors)
