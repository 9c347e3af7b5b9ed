-- Rules that ask different things of one site overlap nowhere, so keys by what is asked there tell them apart; and so do the priorities of rules that demand equalities.
use Rattle.std.proofs.Common.{take, ◌≡◌, ◌≢◌, ℕ, suc, ◌+◌, ◌<◌, ◌==◌, get_or, inl, inr, replicate, Bool, true, false, not, ◌&&◌, ◌||◌, ℤ, List, [], ◌∷◌, ◌++◌, length, Option, Some, None, slice_get, int_lt, nat_le, if◌then◌else◌, refl, sym, ap, ◌∙◌, subst, eq-eqb, arith}
use Rattle.std.specs.BTreeMap.{BTreeMap, get}
use Rattle.std.specs.List.{list_any}
use Rattle.std.specs.Ordering.{int_eq}
use Rattle.std.proofs.lemmas.Bool.{and_from}
use Rattle.std.proofs.Math.Bool.{and-false}
use Rattle.std.proofs.lemmas.List.{length-append, length-replicate, map-append, take_more}
use Rattle.std.proofs.lemmas.Option.{same_Some, slice_get_within}
use Rattle.std.proofs.lemmas.Grind.{common_steps}
use Rattle.model.specs.sites.Sites.{Constraint, is_variant, is_struct, is_bool, is_int, is_prim, is_present, SetRule}
use Rattle.model.specs.visits.Demands.{constraint_eq}
use Rattle.model.specs.sites.SetRules.{sites_differ, differs_at, all_agree, equates_none, overlap_between, overlap_wrongly, is_mask_of, may_both_match, is_subset, no_overlap, some_overlap, is_subset_of_sites}
use Rattle.model.specs.trees.Places.{constraint_at}
use Rattle.model.specs.trees.Best.{total_constraints}
use Rattle.model.proofs.Members.{constraint_in, passes_any}
use Rattle.model.proofs.SameSites.{constraint_means, same_constraint}
use Rattle.core_overlap.specs.Comparisons.{wrong_pair, masked_pair}
use Rattle.model.proofs.Positions.{get_push_cases}
use Rattle.core_rule_sets.specs.SiteViews.{constraint_view, set_rule_view, set_rule_views}
use Rattle.core_rule_sets.specs.declared.trie_again.Rule.{Rule}
use Rattle.core_rule_sets.specs.contracts.trie_again.ConstraintOrd.TheImpl.{ghosts}
use Rattle.core_rule_sets.specs.declared.trie_again.Constraint as C
use Rattle.core_rule_sets.specs.declared.trie_again.Constraint.TheVariants as T
use Rattle.core_overlap.specs.Keys.{AreApart, AreKeyed, IsAskedNumber, IsPriorityNumber, TellApart}

-- two constraints of one site
told : (as' bs : List (ℕ × Constraint)) (s : ℕ) (c d : Constraint) → constraint_at as' s ≡ Some c → constraint_at bs s ≡ Some d → constraint_eq c d ≡ false → sites_differ as' bs ≡ true
told as' bs s c d e f n =
    passes_any (λ a. list_any (differs_at a) bs) as' (s, c) (constraint_in as' s c e)
    (passes_any (differs_at (s, c)) bs (s, d) (constraint_in bs s d f)
    (and_from (s == s) (not (constraint_eq c d)) (eq-eqb s s refl) (ap not n)))

-- which differ, differ either way
either_way : (c d : Constraint) → constraint_eq c d ≡ false → constraint_eq d c ≡ false
either_way c d n = grind (arith, common_steps, same_constraint c d, constraint_means d c)

-- a constraint by what it says
abbrev of_view : Constraint → C.Constraint
of_view (is_variant ty v fields) = T.Variant (record { 0 = ty }) (record { 0 = v }) fields
of_view (is_struct ty fields) = T.Struct (record { 0 = ty }) fields
of_view (is_bool b ty) = T.ConstBool b (record { 0 = ty })
of_view (is_int z ty) = T.ConstInt z (record { 0 = ty })
of_view (is_prim name) = T.ConstPrim (record { 0 = name })
of_view is_present = T.Some

back : (c : C.Constraint) → of_view (constraint_view c) ≡ c
back c = grind (arith, common_steps)

-- which says all of it
says_all : (c d : C.Constraint) → constraint_view c ≡ constraint_view d → c ≡ d
says_all c d e = sym (back c) ∙ ap of_view e ∙ back d

-- two different numbers are of different constraints
other_number : (numbers : BTreeMap C.Constraint ℕ) (c d : C.Constraint) (k l : ℕ) → get ghosts.cmp numbers c ≡ Some k → get ghosts.cmp numbers d ≡ Some l → k ≢ l
    → constraint_eq (constraint_view c) (constraint_view d) ≡ false
other_number numbers c d k l e f n = grind (arith, common_steps, says_all c d, constraint_means (constraint_view c) (constraint_view d), same_Some k l)

no_match : (a b : SetRule) → sites_differ a.constraints b.constraints ≡ true → overlap_between a b ≡ no_overlap
no_match a b h = ap (λ t. if t then no_overlap else some_overlap (is_subset_of_sites a b)) h

not_wrong : (a b : SetRule) → sites_differ a.constraints b.constraints ≡ true → overlap_wrongly a b ≡ false
not_wrong a b h = ap (λ o. int_eq a.prio b.prio && may_both_match o) (no_match a b h) ∙ and-false (int_eq a.prio b.prio)

no_mask : (a b : SetRule) → sites_differ a.constraints b.constraints ≡ true → is_mask_of a b ≡ false
no_mask a b h = ap (λ o. (int_lt b.prio a.prio && is_subset o) && nat_le (total_constraints a) (total_constraints b)) (no_match a b h) ∙ ap (λ t. t && nat_le (total_constraints a) (total_constraints b)) (and-false (int_lt b.prio a.prio))

-- rules whose numbers differ
pub numbered_tell_apart : (numbers : BTreeMap C.Constraint ℕ) (site : ℕ) (rules : List SetRule) (keys : List (Option ℕ)) → AreKeyed (IsAskedNumber numbers site) rules keys → TellApart rules keys
numbered_tell_apart numbers site rules keys h = record {
  each = h.each;
  apart = λ i j a b k l ai bj ki lj n.
      let x = h.keyed i a k ai ki in
      let y = h.keyed j b l bj lj in
      let f = other_number numbers x.asked y.asked k l x.number y.number n in
      let first = told a.constraints b.constraints site (constraint_view x.asked) (constraint_view y.asked) x.here y.here f in
      record {
        wrong = not_wrong a b first;
        masks = no_mask a b first;
        masked = no_mask b a (told b.constraints a.constraints site (constraint_view y.asked) (constraint_view x.asked) y.here x.here (either_way (constraint_view x.asked) (constraint_view y.asked) f));
      };
}

-- a rule that demands equalities is of no subset pair
second_false : (x y : Bool) → (x && false) && y ≡ false
second_false x y = grind (arith, common_steps)

no_pair : (a b : SetRule) (s : Bool) → s ≡ false → is_subset (if sites_differ a.constraints b.constraints then no_overlap else some_overlap s) ≡ false
no_pair a b s e = grind (arith, common_steps)

unmasked : (a b : SetRule) → is_subset (overlap_between a b) ≡ false → is_mask_of a b ≡ false
unmasked a b h = ap (λ t. (int_lt b.prio a.prio && t) && nat_le (total_constraints a) (total_constraints b)) h ∙ ap (λ t. t && nat_le (total_constraints a) (total_constraints b)) (and-false (int_lt b.prio a.prio))

abbrev agree : SetRule → SetRule → Bool
agree a b = all_agree a.constraints b.constraints || all_agree b.constraints a.constraints

no_mask_first : (a b : SetRule) → equates_none a ≡ false → is_mask_of a b ≡ false
no_mask_first a b h = unmasked a b (no_pair a b (is_subset_of_sites a b) (ap (λ t. (t && equates_none b) && agree a b) h))

no_mask_second : (a b : SetRule) → equates_none b ≡ false → is_mask_of a b ≡ false
no_mask_second a b h = unmasked a b (no_pair a b (is_subset_of_sites a b) (ap (λ t. (equates_none a && t) && agree a b) h ∙ second_false (equates_none a) (agree a b)))

-- of other priorities
different : (x y : ℤ) → x ≢ y → int_eq x y ≡ false
different x y n = grind (arith, common_steps)

other_priority : (a b : SetRule) → a.prio ≢ b.prio → overlap_wrongly a b ≡ false
other_priority a b n = ap (λ t. t && may_both_match (overlap_between a b)) (different a.prio b.prio n)

pub priorities_tell_apart : (rules : List SetRule) (keys : List (Option ℕ)) → AreKeyed IsPriorityNumber rules keys → TellApart rules keys
priorities_tell_apart rules keys h = grind (arith, common_steps, other_priority, no_mask_first, no_mask_second)

pub apart_wrong : (a b : SetRule) → AreApart a b → wrong_pair a b ≡ []
apart_wrong a b h = ap (λ t. if t then (a.at, b.at) ∷ [] else []) h.wrong

pub apart_masked : (i : ℕ) (a : SetRule) (j : ℕ) (b : SetRule) → AreApart a b → masked_pair i a j b ≡ []
apart_masked i a j b h = grind (arith, common_steps)

-- one more key
pub keyed_more : (says : SetRule → ℕ → Type 0) (rules : List Rule) (i : ℕ) (d : Rule) (old new : List (Option ℕ)) (key : Option ℕ) → i < length rules
    → AreKeyed says (set_rule_views (take i rules)) old → new ≡ old ++ key ∷ [] → ((k : ℕ) → key ≡ Some k → says (set_rule_view (get_or rules i d)) k)
    → AreKeyed says (set_rule_views (take (i + 1) rules)) new
keyed_more says rules i d old new key l h added this =
    let v = set_rule_view (get_or rules i d) in
    let upto = ap set_rule_views (take_more rules i d l) ∙ map-append set_rule_view (take i rules) (get_or rules i d ∷ []) in
    subst (λ vs. AreKeyed says vs new) (sym upto) (subst (AreKeyed says (set_rule_views (take i rules) ++ v ∷ [])) (sym added) (both (set_rule_views (take i rules)) v h this))
  where
    both : (vs : List SetRule) (v : SetRule) → AreKeyed says vs old → ((k : ℕ) → key ≡ Some k → says v k) → AreKeyed says (vs ++ v ∷ []) (old ++ key ∷ [])
    both vs v h this = record {
      each = length-append old (key ∷ []) ∙ ap (λ n. n + 1) h.each ∙ sym (length-append vs (v ∷ []));
      keyed = λ j r k rj kj. elim (get_push_cases vs v r j rj) [
        | inl before ↦ grind (arith, common_steps, get_push_cases old key (Some k) j kj, slice_get_within)
        | inr here ↦ grind (arith, common_steps, get_push_cases old key (Some k) j kj, slice_get_within old j (Some k))
      ];
    }

abbrev nothing : Option ℕ
nothing = None

says_nothing : (n i k : ℕ) → slice_get (replicate n nothing) i ≡ Some (Some k) → ⊥
says_nothing (suc n) (suc i) k e = says_nothing n i k e
says_nothing _ _ k e = absurd (cc)

-- no key says anything
pub none_tell_apart : (rules : List SetRule) (keys : List (Option ℕ)) → keys ≡ replicate (length rules) nothing → TellApart rules keys
none_tell_apart rules keys same = grind (arith, common_steps, length-replicate (length rules) nothing, says_nothing (length rules))
