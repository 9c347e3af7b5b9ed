-- The search for terms that come back to themselves through internal extractors finds all of them, and no other.
use Rattle.std.proofs.Common.{◌≡◌, ◌⊎◌, ℕ, Bool, true, false, not, cond, List, [], ◌∷◌, map, Contains, Decides, refl, sym, ap, ◌∙◌, subst, inl, inr, arith}
use Rattle.std.proofs.lemmas.Grind.{common_steps}
use Rattle.std.specs.Str.{bytes_eq}
use Rattle.std.proofs.lemmas.Bool.{cond-true}
use Rattle.std.proofs.lemmas.Bool.Decides.{Decides-not}
use Rattle.std.proofs.lemmas.List.Elements.{Contains-append_left, Contains-push, Contains-push_cases}
use Rattle.std.proofs.lemmas.Slice.Eq.{bytes_eq-Decides}
use Rattle.model.specs.lists.Syntax.{ExtractorTree, Definition}
use Rattle.model.specs.lists.Names.{has_name, with_name, with_names}
use Rattle.model.specs.lists.TermTable.{extractor_trees, internal_extractors, terms_in, Uses, Reaches, directly, through}
use Rattle.model.specs.lists.ListJudge.{TermUses, direct_uses, uses_of, with_uses_of, through_term, through_terms, all_uses}
use Rattle.model.proofs.Members.{nothing_in, in_head, in_tail, in_cases, in_map, from_map, in_flat_map, from_flat_map, each_passes, all_pass}
use Rattle.laws_typing.specs.JudgeLaws.{CyclesAreFound}
use Rattle.laws_typing.proofs.DistinctLists.{has_name_decides}

-- names with further ones
from_with_name : (ns : List (List ℕ)) (y x : List ℕ) → Contains (with_name ns y) x → Contains ns x ⊎ (y ≡ x)
from_with_name ns y x = grind (arith, common_steps, Contains-push_cases ns y x, Contains-push_cases)

from_with_names : (ns ys : List (List ℕ)) (x : List ℕ) → Contains (with_names ns ys) x → Contains ns x ⊎ Contains ys x
from_with_names ns [] x c = inl c
from_with_names ns (y ∷ ys) x c = grind (arith, from_with_names (with_name ns y) ys x c, from_with_name ns y x, in_head y ys, in_tail y x ys)

kept_with_name : (ns : List (List ℕ)) (y x : List ℕ) → Contains ns x → Contains (with_name ns y) x
kept_with_name ns y x c = grind (arith, common_steps, Contains-append_left ns (y ∷ []) x c, Contains-append_left)

new_with_name : (ns : List (List ℕ)) (y : List ℕ) → Contains (with_name ns y) y
new_with_name ns y = grind (arith, common_steps, has_name_decides ns y, Contains-push ns y, has_name_decides, Contains-push)

kept_with_names : (ns ys : List (List ℕ)) (x : List ℕ) → Contains ns x → Contains (with_names ns ys) x
kept_with_names ns [] x c = c
kept_with_names ns (y ∷ ys) x c = kept_with_names (with_name ns y) ys x (kept_with_name ns y x c)

new_with_names : (ns ys : List (List ℕ)) (x : List ℕ) → Contains ys x → Contains (with_names ns ys) x
new_with_names ns [] x c = absurd (nothing_in x c)
new_with_names ns (y ∷ ys) x c =
    elim (in_cases y x ys c) [
      | inl e ↦ kept_with_names (with_name ns y) ys x (subst (Contains (with_name ns y)) e (new_with_name ns y))
      | inr d ↦ new_with_names (with_name ns y) ys x d
    ]

-- what one entry says of a term
abbrev said : List ℕ → TermUses → List (List ℕ)
said a u = cond (bytes_eq u.term a) u.comes_to []

from_said : (a b : List ℕ) (u : TermUses) → Contains (said a u) b → (u.term ≡ a) × Contains u.comes_to b
from_said a b u = grind (arith, common_steps, bytes_eq-Decides u.term a, nothing_in b, bytes_eq-Decides, nothing_in)

to_said : (a b : List ℕ) (u : TermUses) → u.term ≡ a → Contains u.comes_to b → Contains (said a u) b
to_said a b u e c = subst (λ l. Contains l b) (sym (cond-true (bytes_eq u.term a) u.comes_to [] ((bytes_eq-Decides u.term a).1 e))) c

-- a term comes to a term, as found so far
abbrev Comes : List TermUses → List ℕ → List ℕ → Type 0
Comes uses a b = Contains (uses_of uses a) b

-- an entry that says so
from_comes : (uses : List TermUses) (a b : List ℕ) → Comes uses a b → (u : TermUses) × Contains uses u × (u.term ≡ a) × Contains u.comes_to b
from_comes uses a b c =
    let r = from_flat_map (said a) uses b c in
    let s = from_said a b r.0 r.2 in
    (r.0, r.1, s.0, s.1)

to_comes : (uses : List TermUses) (u : TermUses) (a b : List ℕ) → Contains uses u → u.term ≡ a → Contains u.comes_to b → Comes uses a b
to_comes uses u a b i e c = in_flat_map (said a) uses u b i (to_said a b u e c)

-- one step of the search: through one more term
module _ (x : List ℕ) (uses : List TermUses) where
  entry_grows : (u : TermUses) (b : List ℕ) → Contains u.comes_to b → Contains (with_uses_of x uses u).comes_to b
  entry_grows u b c =
      elim (has_name u.comes_to x) as (λ t. Contains (cond t (record { term = u.term; comes_to = with_names u.comes_to (uses_of uses x) }) u).comes_to b) [
        | true ↦ kept_with_names u.comes_to (uses_of uses x) b c
        | false ↦ c
      ]

  entry_term : (u : TermUses) → (with_uses_of x uses u).term ≡ u.term
  entry_term u = grind (arith, common_steps)

  entry_goes_on : (u : TermUses) (b : List ℕ) → Contains u.comes_to x → Comes uses x b → Contains (with_uses_of x uses u).comes_to b
  entry_goes_on u b c d = grind (arith, common_steps, has_name_decides u.comes_to x, new_with_names u.comes_to (uses_of uses x) b d, has_name_decides, new_with_names)

  entry_says : (u : TermUses) (b : List ℕ) → Contains (with_uses_of x uses u).comes_to b → Contains u.comes_to b ⊎ (Contains u.comes_to x × Comes uses x b)
  entry_says u b = grind (arith, from_with_names u.comes_to (uses_of uses x) b, has_name_decides u.comes_to x, u.term)

  step_grows : (a b : List ℕ) → Comes uses a b → Comes (through_term x uses) a b
  step_grows a b c =
      let r = from_comes uses a b c in
      to_comes (through_term x uses) (with_uses_of x uses r.0) a b (in_map (with_uses_of x uses) uses r.0 r.1) (entry_term r.0 ∙ r.2) (entry_grows r.0 b r.3)

  step_goes_on : (a b : List ℕ) → Comes uses a x → Comes uses x b → Comes (through_term x uses) a b
  step_goes_on a b c d =
      let r = from_comes uses a x c in
      to_comes (through_term x uses) (with_uses_of x uses r.0) a b (in_map (with_uses_of x uses) uses r.0 r.1) (entry_term r.0 ∙ r.2) (entry_goes_on r.0 b r.3 d)

  step_says : (a b : List ℕ) → Comes (through_term x uses) a b → Comes uses a b ⊎ (Comes uses a x × Comes uses x b)
  step_says a b c =
      let r = from_comes (through_term x uses) a b c in
      let m = from_map (with_uses_of x uses) uses r.0 r.1 in
      let e : m.0.term ≡ a = sym (entry_term m.0) ∙ ap (λ v. v.term) m.2 ∙ r.2 in
      elim (entry_says m.0 b (subst (λ v. Contains v.comes_to b) (sym m.2) r.3)) [
        | inl d ↦ inl (to_comes uses m.0 a b m.1 e d)
        | inr d ↦ inr (to_comes uses m.0 a x m.1 e d.0, d.1)
      ]

-- what comes to a term comes to all that it comes to
abbrev GoesThrough : List TermUses → List ℕ → Type 0
GoesThrough uses k = (a b : List ℕ) → Comes uses a k → Comes uses k b → Comes uses a b

goes_through : (x : List ℕ) (uses : List TermUses) → GoesThrough (through_term x uses) x
goes_through x uses a b c d = grind (arith, common_steps, step_says x uses a x c, step_says x uses x b d, step_goes_on x uses a b, step_says, step_goes_on)

still_goes_through : (x : List ℕ) (uses : List TermUses) (k : List ℕ) → GoesThrough uses k → GoesThrough (through_term x uses) k
still_goes_through x uses k g a b c d =
    elim (step_says x uses a k c) [
      | inl c ↦ elim (step_says x uses k b d) [
        | inl d ↦ step_grows x uses a b (g a b c d)
        | inr d ↦ step_goes_on x uses a b (g a x c d.0) d.1
      ]
      | inr c ↦ elim (step_says x uses k b d) [
        | inl d ↦ step_goes_on x uses a b c.0 (g x b c.1 d)
        | inr d ↦ step_goes_on x uses a b c.0 d.1
      ]
    ]

-- the whole search
all_grows : (xs : List (List ℕ)) (uses : List TermUses) (a b : List ℕ) → Comes uses a b → Comes (through_terms xs uses) a b
all_grows [] uses a b c = c
all_grows (x ∷ xs) uses a b c = all_grows xs (through_term x uses) a b (step_grows x uses a b c)

all_still : (xs : List (List ℕ)) (uses : List TermUses) (k : List ℕ) → GoesThrough uses k → GoesThrough (through_terms xs uses) k
all_still [] uses k g = g
all_still (x ∷ xs) uses k g = all_still xs (through_term x uses) k (still_goes_through x uses k g)

all_go_through : (xs : List (List ℕ)) (uses : List TermUses) (k : List ℕ) → Contains xs k → GoesThrough (through_terms xs uses) k
all_go_through [] uses k i = absurd (nothing_in k i)
all_go_through (x ∷ xs) uses k i =
    elim (in_cases x k xs i) [
      | inl e ↦ subst (GoesThrough (through_terms xs (through_term x uses))) e (all_still xs (through_term x uses) x (goes_through x uses))
      | inr j ↦ all_go_through xs (through_term x uses) k j
    ]

module _ (defs : List Definition) where
  -- what is found is so
  abbrev IsSound : List TermUses → Type 0
  IsSound uses = (a b : List ℕ) → Comes uses a b → Reaches defs a b

  goes_on : (t u v : List ℕ) → Reaches defs t u → Reaches defs u v → Reaches defs t v
  goes_on t u v (directly x) s = through x s
  goes_on t w v (through {u = u} x r) s = through x (goes_on u w v r s)

  all_sound : (xs : List (List ℕ)) (uses : List TermUses) → IsSound uses → IsSound (through_terms xs uses)
  all_sound [] uses s = s
  all_sound (x ∷ xs) uses s =
      all_sound xs (through_term x uses)
      (λ a b c. elim (step_says x uses a b c) [ inl d ↦ s a b d | inr d ↦ goes_on a x b (s a x d.0) (s x b d.1) ])

  abbrev use_of : ExtractorTree → TermUses
  use_of e = record { term = e.term.text; comes_to = map (λ n. n.text) (terms_in e.template) }

  used : (t u : List ℕ) → Uses defs t u → Comes (direct_uses defs) t u
  used t u x = to_comes (direct_uses defs) (use_of x.definition) t u (in_map use_of (extractor_trees defs) x.definition x.there) x.of_term x.calls

  uses : (t u : List ℕ) → Comes (direct_uses defs) t u → Uses defs t u
  uses t u c =
      let r = from_comes (direct_uses defs) t u c in
      let m = from_map use_of (extractor_trees defs) r.0 r.1 in
      record {
        definition = m.0;
        there = m.1;
        of_term = ap (λ v. v.term) m.2 ∙ r.2;
        calls = subst (λ v. Contains v.comes_to u) (sym m.2) r.3;
      }

  found_so : IsSound (all_uses defs)
  found_so = all_sound (internal_extractors defs) (direct_uses defs) (λ a b c. directly (uses a b c))

  leaves : (t u : List ℕ) → Reaches defs t u → Contains (internal_extractors defs) t
  leaves t u (directly x) = grind (arith, common_steps, in_map)
  leaves t u (through {u = w} x r) = grind (arith, common_steps, in_map)

  -- all that is so is found
  found : (t u : List ℕ) → Reaches defs t u → Comes (all_uses defs) t u
  found t u (directly x) = all_grows (internal_extractors defs) (direct_uses defs) t u (used t u x)
  found t v (through {u = u} x r) =
      all_go_through (internal_extractors defs) (direct_uses defs) u (leaves u v r) t v
      (all_grows (internal_extractors defs) (direct_uses defs) t u (used t u x)) (found u v r)

abbrev goes_away : TermUses → Bool
goes_away u = not (has_name u.comes_to u.term)

away : (u : TermUses) → Decides (goes_away u) (Contains u.comes_to u.term → ⊥)
away u = Decides-not (has_name u.comes_to u.term) (has_name_decides u.comes_to u.term)

pub cycles_are_found_lem : CyclesAreFound
cycles_are_found_lem defs = (
  (λ h t r. grind (arith, common_steps, from_comes (all_uses defs) t t (found defs t t r), found defs t t r, away, each_passes goes_away (all_uses defs) h)),
  λ h. all_pass goes_away (all_uses defs)
      (λ u i. (away u).1 (λ c. h u.term (found_so defs u.term u.term (to_comes (all_uses defs) u u.term u.term i refl c)))),
)
