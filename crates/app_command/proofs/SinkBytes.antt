-- The bytes of a sink that nothing is written to.
use Rattle.std.proofs.Common.{◌≡◌, ℕ, List, [], Option, Some, None, refl, sym, subst, append-nil}
use Rattle.std.specs.Io.KnownBytes.{Appends, Keeps}

pub nothing_kept : (known : Option (List ℕ)) → Keeps known known
nothing_kept None = tt
nothing_kept (Some bytes) = refl

nothing_added : (known : Option (List ℕ)) → Appends known known []
nothing_added None = tt
nothing_added (Some bytes) = sym (append-nil bytes)

-- the empty text is on it
pub empty_added : (known : Option (List ℕ)) (text : List ℕ) → text ≡ [] → Appends known known text
empty_added known text empty = subst (Appends known known) (sym empty) (nothing_added known)
