-- More names leave the numbers of the names of types, and so the look-ups of types.
use Rattle.std.proofs.Common.{◌≡◌, ℕ, ◌+◌, true, List, [], ◌∷◌, ◌++◌, map, Contains, refl, arith}
use Rattle.std.proofs.lemmas.Grind.{common_steps}
use Rattle.std.proofs.Math.Path.{ap₂}
use Rattle.std.specs.List.{enumerate_from}
use Rattle.std.proofs.lemmas.Bool.{false≢true}
use Rattle.std.proofs.lemmas.List.Elements.{All-contains}
use Rattle.model.specs.lists.Names.{number, has_name}
use Rattle.laws_typing.specs.ReadEnvironments.{TypesAreShown, TypesStay}
use Rattle.model.proofs.Members.{in_head, in_tail}
use Rattle.model.proofs.NumbersOf.{environments_are_read}

pub types_are_shown_lem : TypesAreShown
types_are_shown_lem e r = environments_are_read e r.well_formed.names_distinct

-- a name that is there keeps its number
pub number_front : (ns more : List (List ℕ)) (x : List ℕ) → has_name ns x ≡ true → number (ns ++ more) x ≡ number ns x
number_front (z ∷ zs) more x h = grind (arith, common_steps, number_front zs more x)
number_front [] more x h = absurd (false≢true h)

abbrev with_number : List (List ℕ) → ℕ × List ℕ → ℕ × ℕ
with_number ns p = (number ns p.1, p.0)

abbrev with_first : ℕ → ℕ → List (ℕ × ℕ) → List (ℕ × ℕ)
with_first i n l = (n, i) ∷ l

numbered_from : (ns more : List (List ℕ)) (i : ℕ) (xs : List (List ℕ)) → ((x : List ℕ) → Contains xs x → has_name ns x ≡ true)
    → map (with_number (ns ++ more)) (enumerate_from i xs) ≡ map (with_number ns) (enumerate_from i xs)
numbered_from ns more i [] h = refl
numbered_from ns more i (x ∷ xs) h =
    ap₂ (with_first i) (number_front ns more x (h x (in_head x xs))) (numbered_from ns more (i + 1) xs (λ y c. h y (in_tail x y xs c)))

pub types_stay_lem : TypesStay
types_stay_lem e before after more r b a = grind (arith, common_steps, numbered_from e.known.names more 0 e.known.type_names, numbered_from, All-contains)
