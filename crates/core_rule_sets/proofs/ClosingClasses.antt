-- A class is taken, over numbers and over what they stand for; and the closing, step by step.
use Rattle.std.proofs.Common.{◌≡◌, ℕ, suc, ◌+◌, ◌<◌, ◌≤◌, true, false, not, ◌&&◌, if◌then◌else◌, List, [], ◌∷◌, ◌++◌, length, map, flat_map, drop, get_or, All, Some, None, is_some, slice_get, refl, sym, ap, ◌∙◌, subst, inl, inr, arith, eq-eqb}
use Rattle.std.specs.Prelude.{nat_eq}
use Rattle.std.specs.List.{zip}
use Rattle.std.specs.Ordering.{nat_cmp}
use Rattle.std.specs.List.Sorted.{IsStrictlySortedBy}
use Rattle.std.proofs.lemmas.Bool.{and_parts, false_from_ne_true}
use Rattle.std.proofs.lemmas.Option.{same_Some, slice_get_within}
use Rattle.std.proofs.lemmas.Grind.{common_steps}
use Rattle.core_containers.specs.Partition.{in_set}
use Rattle.model.specs.sites.Sites.{Site, Constraint, SiteTerm, unfold_site, field_terms}
use Rattle.model.specs.visits.Demands.{has_site, with_sites}
use Rattle.model.specs.sites.Closure.{Closed, constraint_of, class_at, merged_classes, merged_all, ascending, is_in_class, next_constrained, taken, closing}
use Rattle.model.proofs.Elements.{In, any_in, in_any}
use Rattle.model.proofs.SitesMade.{in_has, has_in}
use Rattle.laws_sites.proofs.Closing.{closing_ends}
use Rattle.core_rule_sets.specs.SiteDemands.{constraint_held, are_equated}
use Rattle.core_rule_sets.specs.SiteTables.{AddsFields}
use Rattle.core_rule_sets.specs.SiteViews.{constraint_view}
use Rattle.core_rule_sets.specs.Closings.{AreDemandsOf, AreFieldsOf, GoOn, IsNextDue, is_due, asked_each, with_member, with_field_terms}
use Rattle.core_rule_sets.specs.declared.trie_again.Constraint as C
use Rattle.core_rule_sets.specs.declared.demanded.Demanded.{Demanded}
use Rattle.core_rule_sets.proofs.ClassTests.{in_one, one_in, in_class_means, class_has}
use Rattle.core_rule_sets.proofs.ClosingNumbers.{AreBelow, rises, members_same, in_class_same, next_nowhere, next_is}
use Rattle.core_rule_sets.proofs.ClosingSteps.{with_made, with_asked, without_class, told_apart, apart_of, grown, removed, asked_more, held_same, equated_same}
use Rattle.core_rule_sets.proofs.ListTails.{rest_is}
use Rattle.core_rule_sets.proofs.SitesAdded.{same_all}

-- 1. the same demands, whatever is kept to look at
pub same_demands : (sites : List Site) (d e : Demanded) (k : Closed) → AreDemandsOf sites d k → e.constraints ≡ d.constraints → e.equals ≡ d.equals → AreDemandsOf sites e k
same_demands sites d e k h asked equated = grind (arith, common_steps, held_same d e asked, equated_same d e equated)

pub goes_on_from : (first before after : List Site) (d e : Demanded) (j k : Closed) → GoOn first before d j → GoOn before after e k → GoOn first after e k
goes_on_from first before after d e j k g h = grind (arith, common_steps)

-- 2. fields of members, one after another
abbrev pub with_members : Constraint → SiteTerm → Closed → List SiteTerm → Closed
with_members c least k [] = k
with_members c least k (m ∷ ms) = with_members c least (with_member c least k m) ms

pub merged_append : (es gs : List (SiteTerm × SiteTerm)) (ks : List (List SiteTerm)) → merged_all (merged_all ks es) gs ≡ merged_all ks (es ++ gs)
merged_append [] gs ks = refl
merged_append (e ∷ es) gs ks = merged_append es gs (merged_classes ks e)

pub sites_append : (us vs ts : List SiteTerm) → with_sites (with_sites ts us) vs ≡ with_sites ts (us ++ vs)
sites_append [] vs ts = refl
sites_append (u ∷ us) vs ts = sites_append us vs (if has_site ts u then ts else ts ++ u ∷ [])

pub members_at_once : (c : Constraint) (least : SiteTerm) (ms : List SiteTerm) (k : Closed)
    → with_members c least k ms ≡ record {
      constraints = k.constraints;
      classes = merged_all k.classes (flat_map (λ m. zip (field_terms c least) (field_terms c m)) ms);
      made = with_sites k.made (flat_map (field_terms c) ms);
    }
members_at_once c least [] k = refl
members_at_once c least (m ∷ ms) k =
    members_at_once c least ms (with_member c least k m)
    ∙ (λ i. record {
      constraints = k.constraints;
      classes = merged_append (zip (field_terms c least) (field_terms c m)) (flat_map (λ m. zip (field_terms c least) (field_terms c m)) ms) k.classes i;
      made = sites_append (field_terms c m) (flat_map (field_terms c) ms) k.made i;
    })

pub fields_at_once : (c : Constraint) (least : SiteTerm) (ms : List SiteTerm) (k : Closed) → with_members c least (with_made k (field_terms c least)) ms ≡ with_field_terms c k (least ∷ ms)
fields_at_once c least ms k =
    members_at_once c least ms (with_made k (field_terms c least))
    ∙ (λ i. record {
      constraints = k.constraints;
      classes = merged_all k.classes (flat_map (λ m. zip (field_terms c least) (field_terms c m)) ms);
      made = sites_append (field_terms c least) (flat_map (field_terms c) ms) k.made i;
    })

-- 3. the members of the class that is taken
module _ (sites : List Site) (d : Demanded) (k : Closed) (h : AreDemandsOf sites d k) (s : ℕ) (due : is_due d s ≡ true) where
  abbrev f : ℕ → SiteTerm
  f = unfold_site sites

  abbrev class : List SiteTerm
  class = class_at k.classes (f s)

  pub due_within : s < length sites
  due_within = h.asked_within s (and_parts (is_some (constraint_held d s)) (are_equated d s s) due).0

  itself_equated : are_equated d s s ≡ true
  itself_equated = (and_parts (is_some (constraint_held d s)) (are_equated d s s) due).1

  module _ (members : List ℕ) (exact : (y : ℕ) → in_set nat_eq members y ≡ are_equated d s y) where
    number_in : (y : ℕ) → are_equated d s y ≡ true → In members y
    number_in y t = grind (arith, common_steps, in_any (nat_eq y) members (exact y ∙ t))

    in_number : (y : ℕ) → In members y → are_equated d s y ≡ true
    in_number y i = sym (exact y) ∙ any_in (nat_eq y) members y i (eq-eqb y y refl)

    pub members_below : AreBelow (length sites) members
    members_below y i = (h.equated_within s y (in_number y i)).1

    in_class : (y : ℕ) → In members y → has_site class (f y) ≡ true
    in_class y i =
        let l = members_below y i in
        in_has class (f y)
        (class_has k.classes (apart_of sites d k h) (f s) (f y) (inr (in_one k.classes (f s) (f y) (sym (h.equated s y due_within l) ∙ in_number y i))))

    from_class : (y : ℕ) → y < length sites → has_site class (f y) ≡ true → In members y
    from_class y l t =
        elim (in_class_means k.classes (f s) (f y) (has_in class (f y) t)) [
          | inl e ↦ number_in y (subst (λ z. are_equated d s z ≡ true) (told_apart sites d k h s y due_within l e) itself_equated)
          | inr o ↦ number_in y (h.equated s y due_within l ∙ one_in k.classes (f s) (f y) o)
        ]

    pub members_ascend : IsStrictlySortedBy nat_cmp members → ascending k.made class ≡ map f members
    members_ascend sorted =
        let count = h.stand.count in
        members_same f (has_site class) k.made 0 members (λ j l. let z : 0 + j ≡ j = omega arith in h.stand.exact j (omega (arith, l)) ∙ ap (λ i. Some (f i)) (sym z)) (rises members sorted) (
          λ y i.
              let l = members_below y i in
              let a : 0 ≤ y = omega arith in
              let b : y < 0 + length k.made = omega (arith, l, count) in
              (a, b),
          λ y a b t. from_class y (omega (arith, b, count)) t,
          in_class,
        )

-- the class is taken, and its members are asked; then their fields are joined
module _ (sites : List Site) (d : Demanded) (k : Closed) (h : AreDemandsOf sites d k) (s : ℕ) (due : is_due d s ≡ true) (c : Constraint) (members : List ℕ)
    (exact : (y : ℕ) → in_set nat_eq members y ≡ are_equated d s y) (less more : Demanded) (kept : less.constraints ≡ d.constraints)
    (gone : (a b : ℕ) → are_equated less a b ≡ (are_equated d a b && not (are_equated d s a))) (same : more.equals ≡ less.equals)
    (asked : (a : ℕ) → constraint_held more a ≡ asked_each (constraint_held less) members c a) where
  abbrev pub Asked : Closed
  Asked = with_asked (without_class k (unfold_site sites s)) (map (unfold_site sites) members) c

  pub class_asked : AreDemandsOf sites more Asked
  class_asked =
      asked_more sites less (without_class k (unfold_site sites s)) (removed sites d k h less s (due_within sites d k h s due) kept gone)
      more members c (members_below sites d k h s due members exact) same asked

  pub class_taken : IsStrictlySortedBy nat_cmp members → (after : List Site) (last : Demanded) → GoOn sites after last (with_field_terms c Asked (map (unfold_site sites) members))
      → GoOn sites after last (taken k (unfold_site sites s, c) (ascending k.made (class_at k.classes (unfold_site sites s))))
  class_taken sorted after last goes = grind (arith, common_steps, members_ascend sites d k h s due members exact sorted)

-- 4. what is due next
module _ (sites : List Site) (d : Demanded) (k : Closed) (h : AreDemandsOf sites d k) where
  due_same : (s : ℕ) → s < length sites
      → is_due d s ≡ (is_some (constraint_of k.constraints (unfold_site sites s)) && is_in_class k.classes (unfold_site sites s))
  due_same s l = λ i. is_some (h.asked s l i) && (h.equated s s l l ∙ sym (in_class_same k.classes (unfold_site sites s))) i

  number_of : (j : ℕ) (v : SiteTerm) → slice_get k.made j ≡ Some v → (j < length sites) × (unfold_site sites j ≡ v)
  number_of j v e = grind (arith, common_steps, slice_get_within k.made j v e, same_Some (unfold_site sites j) v)

  not_due : (j : ℕ) (v : SiteTerm) → slice_get k.made j ≡ Some v → is_due d j ≡ false → (is_some (constraint_of k.constraints v) && is_in_class k.classes v) ≡ false
  not_due j v e f = grind (arith, common_steps, number_of j v e, due_same j)

  pub none_next : ((s : ℕ) → is_due d s ≡ false) → next_constrained k.classes k.constraints k.made ≡ None
  none_next none = next_nowhere k.classes k.constraints k.made (λ j v e. not_due j v e (none j))

  pub due_next : (s : ℕ) (c : C.Constraint) → IsNextDue d s c → next_constrained k.classes k.constraints k.made ≡ Some (unfold_site sites s, constraint_view c)
  due_next s c next =
      let l = due_within sites d k h s next.due in
      let u = unfold_site sites s in
      let both = and_parts (is_some (constraint_of k.constraints u)) (is_in_class k.classes u) (sym (due_same s l) ∙ next.due) in
      next_is k.classes k.constraints k.made s u (constraint_view c) (h.stand.exact s l) (sym (h.asked s l) ∙ next.constraint) both.1
      (λ j v m e. not_due j v e (false_from_ne_true (is_due d j) (λ t. let a = next.least j t in absurd (omega (arith, a, m)))))

-- 5. one step of the closing
pub one_step : (m n : ℕ) (k : Closed) (c : SiteTerm × Constraint) → m ≡ suc n → next_constrained k.classes k.constraints k.made ≡ Some c
    → closing m k ≡ closing n (taken k c (ascending k.made (class_at k.classes c.0)))
one_step m n k c e next = grind (arith, common_steps)

-- 6. fields of members, as far as they are joined
pub record JoinedSoFar (first now : List Site) (d : Demanded) (c : Constraint) (least : SiteTerm) (k : Closed) (fields : List ℕ) (all left : List SiteTerm) : Type 0 where
  pub so_far : Closed
  pub goes : GoOn first now d so_far
  pub whole : with_members c least so_far left ≡ with_members c least (with_made k (field_terms c least)) all
  pub of_least : AreFieldsOf now c fields least

pub joined_first : (first now : List Site) (d : Demanded) (k : Closed) (h : AreDemandsOf first d k) (c : Constraint) (least : ℕ) (fields : List ℕ) (all : List SiteTerm)
    → AddsFields first now c least fields → JoinedSoFar first now d c (unfold_site first least) k fields all all
joined_first first now d k h c least fields all adds =
    let made = adds k.made h.once h.stand in
    record {
      so_far = with_made k (field_terms c (unfold_site first least));
      goes = record { demands = grown first d k h now (field_terms c (unfold_site first least)) made.stand made.kept made.longer; kept = made.kept; longer = made.longer };
      whole = refl;
      of_least = record { within = made.within; of_site = made.numbers };
    }

pub joined_next : (first now after : List Site) (d e : Demanded) (c : Constraint) (least : SiteTerm) (k : Closed) (fields rest : List ℕ) (i m : ℕ) (all : List SiteTerm) → i < length rest → m ≡ get_or rest i m
    → m < length first → JoinedSoFar first now d c least k fields all (map (unfold_site first) (drop i rest))
    → ((j : Closed) (u : SiteTerm) → AreDemandsOf now d j → AreFieldsOf now c fields u → GoOn now after e (with_member c u j (unfold_site now m)))
    → JoinedSoFar first after e c least k fields all (map (unfold_site first) (drop (i + 1) rest))
joined_next first now after d e c least k fields rest i m all l is within j next =
    let h = next j.so_far least j.goes.demands j.of_least in
    let same = j.goes.kept m within in
    let g = subst (λ u. GoOn now after e (with_member c least j.so_far u)) same h in
    let longer = g.longer in
    record {
      so_far = with_member c least j.so_far (unfold_site first m);
      goes = goes_on_from first now after d e j.so_far (with_member c least j.so_far (unfold_site first m)) j.goes g;
      whole = ap (λ left. with_members c least j.so_far (map (unfold_site first) left)) (sym (rest_is rest i m l is)) ∙ j.whole;
      of_least = grind (arith, common_steps, same_all (unfold_site after) (unfold_site now) (length now) fields g.kept j.of_least.within);
    }

pub joined_last : (first now : List Site) (d : Demanded) (c : Constraint) (least : SiteTerm) (k : Closed) (fields : List ℕ) (all left : List SiteTerm) → left ≡ []
    → JoinedSoFar first now d c least k fields all left → GoOn first now d (with_field_terms c k (least ∷ all))
joined_last first now d c least k fields all left none j = grind (arith, common_steps, fields_at_once c least all k)

-- 7. the closing, as far as it went
pub record ClosedSoFar (first now : List Site) (d : Demanded) (k : Closed) (n m : ℕ) : Type 0 where
  pub so_far : Closed
  pub goes : GoOn first now d so_far
  pub whole : closing m so_far ≡ closing n k

pub one_closed : (first now after : List Site) (d e last : Demanded) (k : Closed) (n m : ℕ) (s : ℕ) (c : C.Constraint) → ClosedSoFar first now d k n (suc m) → IsNextDue d s c
    → e.constraints ≡ d.constraints → e.equals ≡ d.equals
    → ((j : Closed) → AreDemandsOf now e j → GoOn now after last (taken j (unfold_site now s, constraint_view c) (ascending j.made (class_at j.classes (unfold_site now s)))))
    → ClosedSoFar first after last k n m
one_closed first now after d e last k n m s c j due asked equal next =
    let h = j.goes.demands in
    let g = next j.so_far (same_demands now d e j.so_far h asked equal) in
    let u : SiteTerm × Constraint = (unfold_site now s, constraint_view c) in
    let more = taken j.so_far u (ascending j.so_far.made (class_at j.so_far.classes (unfold_site now s))) in
    record {
      so_far = more;
      goes = goes_on_from first now after d last j.so_far more j.goes g;
      whole = sym (one_step (suc m) m j.so_far u refl (due_next now d j.so_far h s c due)) ∙ j.whole;
    }

pub all_closed : (first now : List Site) (d e : Demanded) (k : Closed) (n m : ℕ) → ClosedSoFar first now d k n m → ((s : ℕ) → is_due d s ≡ false)
    → e.constraints ≡ d.constraints → e.equals ≡ d.equals → GoOn first now e (closing n k)
all_closed first now d e k n m j none asked equal = grind (arith, common_steps, closing_ends m j.so_far, none_next now d j.so_far, same_demands now d e j.so_far)

-- 8. the first of some members, and the rest
pub same_first : (x y : ℕ) (xs ys : List ℕ) → x ∷ xs ≡ y ∷ ys → x ≡ y
same_first x y xs ys e = cc

pub rest_below : (n : ℕ) (members : List ℕ) (least : ℕ) (rest : List ℕ) → members ≡ least ∷ rest → All (λ m. m < n) members
    → (i x : ℕ) → i < length rest → x ≡ get_or rest i x → x < n
rest_below n members least rest e within i x l is =
    let w : All (λ m. m < n) (least ∷ rest) = subst (All (λ m. m < n)) e within in
    subst (λ m. m < n) (sym is) (w (suc i) x (omega arith))
