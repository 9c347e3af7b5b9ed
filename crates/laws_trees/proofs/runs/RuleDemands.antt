-- What it takes that a rule's demands hold under a pick.
use Rattle.std.proofs.Common.{◌≡◌, ℕ, true, ◌&&◌, List, [], ◌∷◌, Option, Some, None, Contains, refl, sym, ap, ◌∙◌, arith}
use Rattle.std.specs.List.{list_all}
use Rattle.std.proofs.lemmas.Bool.{and_parts, and_from, false≢true}
use Rattle.std.proofs.lemmas.Grind.{common_steps}
use Rattle.model.specs.rules.Values.{Value}
use Rattle.model.specs.rules.Meaning.{Content, one}
use Rattle.model.specs.rules.Outcome.{then_option}
use Rattle.model.specs.sites.Sites.{Constraint, SetRule}
use Rattle.model.specs.trees.Places.{is_in, joins_in}
use Rattle.model.specs.trees.Run.{World, as_value}
use Rattle.model.specs.rules.Picks.{Pick}
use Rattle.model.specs.trees.Collects.{content_at, meets, same_value, value_at, all_same, demands_hold}
use Rattle.model.proofs.ValuesEqual.{eq_means, eq_same}
use Rattle.model.proofs.Members.{nothing_in, in_head, in_tail, in_cases, each_passes, all_pass, one_passes, passes_any, member_found, member_is_in}

-- classes
pub joined_from : (classes : List (List ℕ)) (c : List ℕ) (a b : ℕ) → Contains classes c → Contains c a → Contains c b → joins_in classes a b ≡ true
joined_from classes c a b k x y = passes_any (λ c. is_in a c && is_in b c) classes c k (and_from (is_in a c) (is_in b c) (member_is_in a c x) (member_is_in b c y))

pub joined_in : (classes : List (List ℕ)) (a b : ℕ) → joins_in classes a b ≡ true → (c : List ℕ) × Contains classes c × Contains c a × Contains c b
joined_in classes a b j = grind (arith, common_steps, one_passes, and_parts, member_found)

pub joined_back : (classes : List (List ℕ)) (a b : ℕ) → joins_in classes a b ≡ true → joins_in classes b a ≡ true
joined_back classes a b j = (let r = joined_in classes a b j in joined_from classes r.0 b a r.1 r.3 r.2)

pub joined_itself : (classes : List (List ℕ)) (a b : ℕ) → joins_in classes a b ≡ true → joins_in classes a a ≡ true
joined_itself classes a b j = (let r = joined_in classes a b j in joined_from classes r.0 a a r.1 r.2 r.2)

same_means : (o p : Option Value) → same_value o p ≡ true → o ≡ p
same_means None p h = absurd (false≢true h)
same_means (Some v) None h = absurd (false≢true h)
same_means (Some v) (Some u) h = ap Some (eq_means v u h)

module _ (w : World) (pick : Pick) where
  -- what rules whose demands hold have
  pub demand_met : (q : SetRule) (s : ℕ) (c : Constraint) → demands_hold w pick q ≡ true → Contains q.constraints (s, c) → meets w.meaning c (content_at w pick s) ≡ true
  demand_met q s c h k = grind (arith, common_steps, each_passes, and_parts)

  to_head : (x : ℕ) (xs : List ℕ) → all_same w pick (x ∷ xs) ≡ true → (t : ℕ) → Contains (x ∷ xs) t → value_at w pick x ≡ value_at w pick t
  to_head x xs h t c = grind (arith, common_steps, in_cases, same_means, each_passes)

  class_same : (c : List ℕ) → all_same w pick c ≡ true → (a b : ℕ) → Contains c a → Contains c b → value_at w pick a ≡ value_at w pick b
  class_same [] h a b x y = absurd (nothing_in a x)
  class_same (s ∷ rest) h a b x y = sym (to_head s rest h a x) ∙ to_head s rest h b y

  pub demand_equal : (q : SetRule) (a b : ℕ) → demands_hold w pick q ≡ true → joins_in q.classes a b ≡ true → value_at w pick a ≡ value_at w pick b
  demand_equal q a b h j =
      let r = joined_in q.classes a b j in
      class_same r.0
      (each_passes (all_same w pick) q.classes (and_parts (list_all (λ d. meets w.meaning d.1 (content_at w pick d.0)) q.constraints) (list_all (all_same w pick) q.classes) h).1 r.0 r.1)
      a b r.2 r.3

  -- and what makes them hold
  same_from : (o p : Option Content) (v : Value) → o ≡ Some (one v) → p ≡ Some (one v) → same_value (then_option o as_value) (then_option p as_value) ≡ true
  same_from o p v e f = grind (arith, common_steps, eq_same)

  all_same_from : (c : List ℕ) → ((a b : ℕ) → Contains c a → Contains c b → (v : Value) × (content_at w pick a ≡ Some (one v)) × (content_at w pick b ≡ Some (one v))) → all_same w pick c ≡ true
  all_same_from [] h = refl
  all_same_from (s ∷ rest) h =
      all_pass (λ t. same_value (value_at w pick s) (value_at w pick t)) rest
      (λ t k. let p = h s t (in_head s rest) (in_tail s t rest k) in same_from (content_at w pick s) (content_at w pick t) p.0 p.1 p.2)

  pub demands_from : (r : SetRule) → ((s : ℕ) (c : Constraint) → Contains r.constraints (s, c) → meets w.meaning c (content_at w pick s) ≡ true)
      → ((a b : ℕ) → joins_in r.classes a b ≡ true → (v : Value) × (content_at w pick a ≡ Some (one v)) × (content_at w pick b ≡ Some (one v))) → demands_hold w pick r ≡ true
  demands_from r met equal =
      and_from (list_all (λ d. meets w.meaning d.1 (content_at w pick d.0)) r.constraints) (list_all (all_same w pick) r.classes)
      (all_pass (λ d. meets w.meaning d.1 (content_at w pick d.0)) r.constraints (λ d k. met d.0 d.1 k))
      (all_pass (all_same w pick) r.classes (λ c k. all_same_from c (λ a b x y. equal a b (joined_from r.classes c a b k x y))))
