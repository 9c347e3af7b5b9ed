-- What is looked up by the numbers of names is what is known of the names.
use Rattle.std.proofs.Common.{◌≡◌, ◌==◌, ℕ, suc, ◌+◌, true, cond, List, [], ◌∷◌, map, Option, Some, None, slice_get, Contains, ap, subst, ◌∙◌, arith, eqb-true}
use Rattle.std.proofs.lemmas.Grind.{common_steps}
use Rattle.std.specs.List.{enumerate_from}
use Rattle.std.specs.Str.{bytes_eq}
use Rattle.model.specs.lists.Names.{number, has_name, IsDistinct}
use Rattle.model.specs.rules.Meaning.{look}
use Rattle.model.specs.rules.Outcome.{then_option}
use Rattle.model.specs.lists.TypeTable.{place_from}
use Rattle.model.specs.claims.Environments.{numbered}
use Rattle.model.proofs.Members.{in_head, in_tail}
use Rattle.model.proofs.Names.{found, has_at, same_test}

-- a name with an answer of its own, by its number
pub number_looked_up : (ns : List (List ℕ)) (x : List ℕ) (id : ℕ) (before : List ℕ → Option ℕ) → IsDistinct ns → has_name ns x ≡ true → (k : ℕ) → cond (number ns x == k) (Some id) (then_option (slice_get ns k) before) ≡ then_option (slice_get ns k) (λ y. cond (bytes_eq x y) (Some id) (before y))
number_looked_up ns x id before once met k = grind (arith, common_steps, eqb-true (number ns x) k, found ns x met, found ns, has_at ns k, same_test ns x, eqb-true, found, has_at, same_test)

pub nothing_then : (o : Option (List ℕ)) → None ≡ then_option {Y = ℕ} o (λ x. None)
nothing_then o = grind (arith, common_steps)

after : (i : ℕ) → i + 1 ≡ suc i
after i = omega arith

pub numbered_from : (ns : List (List ℕ)) (i : ℕ) (ts : List (List ℕ)) → IsDistinct ns → ((x : List ℕ) → Contains ts x → has_name ns x ≡ true) → (k : ℕ)
    → look (λ n. n == k) (map (λ p. (number ns p.1, p.0)) (enumerate_from i ts)) ≡ then_option (slice_get ns k) (λ x. place_from i x ts)
numbered_from ns i [] once met k = nothing_then (slice_get ns k)
numbered_from ns i (t ∷ ts) once met k =
    let rest : look (λ n. n == k) (map (λ p. (number ns p.1, p.0)) (enumerate_from (i + 1) ts)) ≡ then_option (slice_get ns k) (λ x. place_from (suc i) x ts) =
    subst (λ j. look (λ n. n == k) (map (λ p. (number ns p.1, p.0)) (enumerate_from (i + 1) ts)) ≡ then_option (slice_get ns k) (λ x. place_from j x ts)) (after i) (numbered_from ns (i + 1) ts once (λ x c. met x (in_tail t x ts c)) k) in
    ap (cond (number ns t == k) (Some i)) rest ∙ number_looked_up ns t i (λ x. place_from (suc i) x ts) once (met t (in_head t ts)) k

-- what is looked up by the number of a name is the place of the name
pub numbered_look : (ns ts : List (List ℕ)) → IsDistinct ns → ((x : List ℕ) → Contains ts x → has_name ns x ≡ true) → (k : ℕ) → look (λ n. n == k) (numbered ns ts) ≡ then_option (slice_get ns k) (λ x. place_from 0 x ts)
numbered_look ns ts once met k = numbered_from ns 0 ts once met k
