-- The end of a block: rules in order, and their returns, one after another.
use Rattle.std.proofs.Common.{◌≡◌, ℕ, suc, ◌+◌, ◌<◌, ◌≤◌, Bool, true, false, not, ◌&&◌, nat_lt, List, [], ◌∷◌, ◌++◌, length, get_or, drop, slice_get, Contains, filter, refl, sym, ap, ◌∙◌, subst, inl, inr, arith, lt-ltb, int_cmp, int_eq, is_lt, add-one, drop-cons}
use Rattle.std.specs.Cmp.{IsStrictWeakOrder, int_cmp_total}
use Rattle.std.specs.List.{list_all}
use Rattle.std.specs.List.Sorted.{ties, IsSortedBy, IsStableBy}
use Rattle.std.proofs.lemmas.Bool.{cases_Bool, cond-true, and_parts, and_from, or_left, or_right}
use Rattle.std.proofs.lemmas.Bool.Decides.{Decides-int_eq}
use Rattle.std.proofs.lemmas.Int.{ints}
use Rattle.std.proofs.lemmas.List.{append-nil}
use Rattle.std.proofs.lemmas.List.Sorted.{ranks_by, IsStrictWeakOrder-flip, sorted_far, IsPermutation-refl}
use Rattle.std.proofs.lemmas.Grind.{common_steps}
use Rattle.laws_trees.proofs.runs.ChosenRules.{one_number}
use Rattle.model.specs.sites.Sites.{SetRule, SiteSet}
use Rattle.model.specs.trees.Trees.{Tree, step, join, return_of, m_return}
use Rattle.model.specs.trees.Places as Places
use Rattle.model.specs.trees.Places.{return_uses, bind_order, after_step}
use Rattle.model.specs.trees.Tests.{is_lower}
use Rattle.model.specs.trees.Best.{comes_first, descend}
use Rattle.model.proofs.Members.{in_filter, each_passes, all_pass}
use Rattle.laws_trees.proofs.Covers.{prio_at, not_lower_at_least, at_least_not_lower}
use Rattle.core_rule_sets.specs.Listings.{ascends}
use Rattle.core_serialize.specs.declared.serialize.EvalStep.{EvalStep}
use Rattle.core_serialize.specs.AroundViews.{Alike, after_uses}
use Rattle.core_serialize.specs.Growing.{AreEnds}
use Rattle.core_serialize.specs.TreeViews.{check_view, steps_view}
use Rattle.core_serialize.proofs.Ascents.{ascends_head, ascends_kept, ascends_tail}
use Rattle.core_serialize.proofs.Descents.{descend_drop}
use Rattle.core_serialize.proofs.Growth.{no_ends, end_more, ends_alike}
use Rattle.core_serialize.proofs.StepsJoined.{step_joined, steps_joined}

-- 1. a stable sort by descending priority of rules that ascend
module _ (rules : List SetRule) where
  abbrev pub is_behind : ℕ → ℕ → Bool
  is_behind i j = is_lt (int_cmp (prio_at rules j) (prio_at rules i))

  strict : IsStrictWeakOrder is_behind
  strict = IsStrictWeakOrder-flip (λ i j. is_lt (int_cmp (prio_at rules i) (prio_at rules j))) (ranks_by int_cmp_total (prio_at rules))

  -- none is lower than one behind it
  abbrev NoneLower : List ℕ → Type 0
  NoneLower ys = (i j : ℕ) (d : ℕ) → i ≤ j → j < length ys → is_behind (get_or ys j d) (get_or ys i d) ≡ false

  -- those of one priority ascend
  abbrev EachAscends : List ℕ → Type 0
  EachAscends ys = (i : ℕ) → ascends (filter (ties is_behind i) ys) ≡ true

  not_behind : (i : ℕ) → is_behind i i ≡ false
  not_behind i = at_least_not_lower rules i i (omega (arith, ints))

  first_by : (i j : ℕ) → is_behind j i ≡ false → (is_behind i j ≡ false → i < j) → comes_first rules i j ≡ true
  first_by i j h f =
      elim (cases_Bool (is_lower rules j i)) [
        | inl t ↦ or_left (is_lower rules j i) (int_eq (prio_at rules j) (prio_at rules i) && nat_lt i j) t
        | inr n ↦
            or_right (is_lower rules j i) (int_eq (prio_at rules j) (prio_at rules i) && nat_lt i j)
            (and_from (int_eq (prio_at rules j) (prio_at rules i)) (nat_lt i j)
            ((Decides-int_eq (prio_at rules j) (prio_at rules i)).1 (one_number (prio_at rules j) (prio_at rules i) (not_lower_at_least rules i j h) (not_lower_at_least rules j i n)))
            (lt-ltb i j (f n)))
      ]

  tied : (i j : ℕ) → is_behind i j ≡ false → is_behind j i ≡ false → ties is_behind i j ≡ true
  tied i j h k = and_from (not (is_behind i j)) (not (is_behind j i)) (ap not h) (ap not k)

  each_rest : (i : ℕ) (ys : List ℕ) → EachAscends (i ∷ ys) → EachAscends ys
  each_rest i ys h k = grind (arith, common_steps, ascends_tail i (filter (ties is_behind k) ys))

  descends : (ys : List ℕ) → NoneLower ys → EachAscends ys → descend rules ys ≡ true
  descends [] far each = refl
  descends (i ∷ ys) far each =
      and_from (list_all (comes_first rules i) ys) (descend rules ys) (all_pass (comes_first rules i) ys (λ j c. first_by i j (below j c) (ascending j c)))
      (descends ys (λ a b d l m. far (suc a) (suc b) d (omega arith) (omega arith)) (each_rest i ys each))
    where
      below : (j : ℕ) → Contains ys j → is_behind j i ≡ false
      below j c = (let l = c.1 in subst (λ k. is_behind k i ≡ false) c.2 (far 0 (suc c.0) j (omega arith) (omega arith)))

      ascending : (j : ℕ) → Contains ys j → is_behind i j ≡ false → i < j
      ascending j c h =
          ascends_head i (filter (ties is_behind i) ys)
          (ap ascends (sym (cond-true (ties is_behind i i) (i ∷ filter (ties is_behind i) ys) (filter (ties is_behind i) ys) (tied i i (not_behind i) (not_behind i)))) ∙ each i) j
          (in_filter (ties is_behind i) ys j c (tied i j h (below j c)))

  pub sorted_descend : (xs ys : List ℕ) → ascends xs ≡ true → IsSortedBy is_behind ys → IsStableBy is_behind xs ys → descend rules ys ≡ true
  sorted_descend xs ys up sorted stable =
      descends ys (sorted_far is_behind strict ys sorted) (λ i. ap ascends (stable i) ∙ ascends_kept (ties is_behind i) xs up)

-- 2. the returns of rules in order
module _ (set : SiteSet) (start : Places.Around) (order : List ℕ) where
  -- with what may follow, the returns so far are all ends
  abbrev pub EndsSoFar : Places.Around → ℕ → List EvalStep → Type 0
  EndsSoFar ar k steps = (t : Tree) → AreEnds set ar (drop k order) t → AreEnds set start order (join (steps_view steps) t)

  pub return_more : descend set.rules order ≡ true → (ar after : Places.Around) (k n : ℕ) (steps next : List EvalStep) (s : EvalStep) → k < length order → n ≡ get_or order k 0 → next ≡ steps ++ s ∷ []
      → s.bind_order.items ≡ bind_order set.sites ar (return_uses (slice_get set.rules n)) → check_view s.check ≡ return_of (slice_get set.rules n)
      → Alike after (after_uses set ar (return_uses (slice_get set.rules n))) → EndsSoFar ar k steps → EndsSoFar after (k + 1) next
  return_more down ar after k n steps next s l g e binds check inside far t a =
      let rest = drop (suc k) order in
      let cons : drop k order ≡ n ∷ rest = drop-cons order k 0 l ∙ ap (λ m. m ∷ rest) (sym g) in
      let first = each_passes (comes_first set.rules n) rest (and_parts (list_all (comes_first set.rules n) rest) (descend set.rules rest) (ap (descend set.rules) (sym cons) ∙ descend_drop set.rules k order down)).0 in
      let behind = ends_alike set after (after_step set ar (m_return n)) rest t (record { sources = inside.sources; joined = inside.joined; brought = inside.brought; emitted = inside.emitted }) (subst (λ m. AreEnds set after (drop m order) t) (add-one k) a) in
      let more = end_more set ar (n ∷ rest) rest n s.bind_order.items t (IsPermutation-refl (n ∷ rest)) first binds behind in
      let whole = far (step s.bind_order.items (return_of (slice_get set.rules n)) t) (subst (λ h. AreEnds set ar h (step s.bind_order.items (return_of (slice_get set.rules n)) t)) (sym cons) more) in
      subst (AreEnds set start order) (sym (ap (λ xs. join (steps_view xs) t) e ∙ step_joined steps s t ∙ ap (λ c. join (steps_view steps) (step s.bind_order.items c t)) check)) whole

  -- behind the last one no rule is left
  pub returns_whole : (ar : Places.Around) (k : ℕ) (steps : List EvalStep) → length order ≤ k → EndsSoFar ar k steps → AreEnds set start order (steps_view steps)
  returns_whole ar k steps over far = grind (arith, common_steps, steps_joined steps [], append-nil steps, no_ends set ar)
