-- Tables that have no room: their sites stand for the first of those that more would make.
use Rattle.std.proofs.Common.{◌≡◌, ℕ, zero, suc, ◌+◌, ◌<◌, ◌≤◌, true, List, [], ◌∷◌, ◌++◌, length, map, flat_map, drop, get_or, Contains, refl, sym, ap, ◌∙◌, subst, inl, inr, arith}
use Rattle.std.specs.Prelude.{Result, IfErr, IsErr, IsErrAnd, nat_eq}
use Rattle.std.specs.Ordering.{nat_cmp}
use Rattle.std.specs.List.Sorted.{IsStrictlySortedBy}
use Rattle.core_containers.specs.Partition.{in_set}
use Rattle.std.proofs.lemmas.Bool.{cases_Bool}
use Rattle.std.proofs.lemmas.List.{append-nil, append_assoc, length-append, map-append, take-append-le, take_all}
use Rattle.std.proofs.lemmas.Grind.{common_steps}
use Rattle.core_syntax.specs.declared.syntax.Limit.TheVariants as Limits
use Rattle.core_syntax.specs.declared.visit_fault.VisitFault.{VisitFault}
use Rattle.model.specs.lists.Names.{IsDistinct}
use Rattle.model.specs.sites.Sites.{Site, Constraint, sources_of, SiteTerm, layer, unfold_site, field_terms}
use Rattle.model.specs.visits.Demands.{has_site, with_sites}
use Rattle.model.specs.sites.Closure.{Closed, ascending, class_at, taken, closing}
use Rattle.model.specs.sites.Limits.{most_sites}
use Rattle.model.specs.sites.RuleSets.{StandFor}
use Rattle.model.specs.sites.SetRules.{each_place}
use Rattle.model.proofs.Elements.{contains_from_in}
use Rattle.model.proofs.SitesMade.{once_with}
use Rattle.laws_sites.proofs.Closing.{closing_keeps}
use Rattle.laws_sites.proofs.built.Unfolding.{SourcesFirst, layer_same}
use Rattle.core_rule_sets.specs.SiteTables.{IsAbsent, AddsSites, HasSources, HasNoRoom, AreFirst, ForWantOfRoom, LacksRoom}
use Rattle.core_rule_sets.specs.Closings.{AreDemandsOf, EndsFull, IsNextDue, is_due, with_member, with_field_terms}
use Rattle.core_rule_sets.specs.SiteDemands.{are_equated}
use Rattle.core_rule_sets.specs.SiteViews.{constraint_view}
use Rattle.core_rule_sets.specs.declared.trie_again.Constraint as C
use Rattle.core_rule_sets.specs.declared.demanded.Demanded.{Demanded}
use Rattle.core_rule_sets.proofs.ListTails.{rest_is}
use Rattle.core_rule_sets.proofs.ClosingSteps.{with_made, with_asked, without_class}
use Rattle.core_rule_sets.proofs.ClosingClasses.{ClosedSoFar, JoinedSoFar, with_members, members_at_once, members_ascend, fields_at_once, sites_append, same_demands, one_step, due_next}
use Rattle.core_rule_sets.proofs.SitesGrown.{not_there}

-- a fault that is passed on
pub passed_on : {A : Type 0} (r : Result A VisitFault) (e : VisitFault) (P : VisitFault → Type 0) → IsErr r × IsErrAnd r (λ y. y ≡ e) → P e → IfErr r P
passed_on r e P h p = grind (arith, common_steps)

-- 1. what is made stays, and more may follow
pub grows : (xs ts : List SiteTerm) → (more : List SiteTerm) × (with_sites ts xs ≡ ts ++ more)
grows [] ts = ([], sym (append-nil ts))
grows (x ∷ xs) ts =
    elim (cases_Bool (has_site ts x)) [
      | inl t ↦ grind (arith, common_steps, grows xs ts)
      | inr f ↦ grind (arith, common_steps, grows xs (ts ++ x ∷ []), append_assoc ts (x ∷ []))
    ]

first_more : (sites : List Site) (us more : List SiteTerm) → AreFirst sites us → AreFirst sites (us ++ more)
first_more sites us more h = grind (arith, common_steps, length-append us more, take-append-le most_sites us more)

pub first_with : (sites : List Site) (us xs : List SiteTerm) → AreFirst sites us → AreFirst sites (with_sites us xs)
first_with sites us xs h = let g = grows xs us in subst (AreFirst sites) (sym g.1) (first_more sites us g.0 h)

-- 2. a site that isn't there has no room
full_now : (sites : List Site) (terms : List SiteTerm) (t : SiteTerm) → StandFor sites terms → length sites ≡ most_sites → AreFirst sites (terms ++ t ∷ [])
full_now sites terms t stand full = grind (arith, common_steps, length-append terms (t ∷ []), take-append-le most_sites terms (t ∷ []), take_all most_sites terms)

module _ (before : List Site) (first : SourcesFirst before) (b : Site) (below : (a : ℕ) → Contains (sources_of b) a → a < length before) where
  no_room : length before ≡ most_sites → IsAbsent before b → (terms : List SiteTerm) → IsDistinct terms → StandFor before terms
      → AreFirst before (with_sites terms (layer (unfold_site before) b ∷ []))
  no_room full absent terms once stand = grind (arith, common_steps, not_there before terms first once stand b below absent, full_now before terms)

  pub site_lacks : (after : List Site) (e : VisitFault) → HasNoRoom before after b e → LacksRoom before after (layer (unfold_site before) b ∷ []) e
  site_lacks after e h = grind (arith, no_room)

pub want_weaker : (P Q : Type 0) (e : VisitFault) → (P → Q) → ForWantOfRoom P e → ForWantOfRoom Q e
want_weaker P Q e f h = grind arith

pub both_want : (P Q : Type 0) (e : VisitFault) → ForWantOfRoom P e → ForWantOfRoom Q e → ForWantOfRoom (P × Q) e
both_want P Q e h k = grind arith

-- 3. a field among fields has no room
place_split : (f : ℕ → Site) (i k n : ℕ) → i < n → (rest : List Site) × (each_place f k n ≡ each_place f k i ++ f (k + i) ∷ rest)
place_split f i k zero l = absurd (omega arith)
place_split f zero k (suc n) l = let z : k + 0 ≡ k = omega arith in (each_place f (suc k) n, ap (λ j. f j ∷ each_place f (suc k) n) (sym z))
place_split f (suc i) k (suc n) l = grind (arith, common_steps, place_split f i (suc k) n)

pub field_lacks : (f : ℕ → Site) (before mid after : List Site) (i n : ℕ) (ns : List ℕ) (e : VisitFault) → i < n → AddsSites before mid (each_place f 0 i) ns
    → HasSources before (f i) → SourcesFirst mid → length before ≤ length mid → HasNoRoom mid after (f i) e
    → LacksRoom before after (map (layer (unfold_site before)) (each_place f 0 n)) e
field_lacks f before mid after i n ns e l added below first longer none =
    want_weaker ((terms : List SiteTerm) → IsDistinct terms → StandFor mid terms → AreFirst after (with_sites terms (layer (unfold_site mid) (f i) ∷ [])))
    ((terms : List SiteTerm) → IsDistinct terms → StandFor before terms → AreFirst after (with_sites terms (map (layer (unfold_site before)) (each_place f 0 n)))) e
    (λ h terms once stand.
    let m = added terms once stand in
    let g = layer (unfold_site before) in
    let made = map g (each_place f 0 i) in
    let split = place_split f i 0 n l in
    let same : layer (unfold_site mid) (f i) ≡ g (f i) =
    layer_same (unfold_site mid) (unfold_site before) (f i) (λ a j. m.kept a (below a (contains_from_in (sources_of (f i)) a j))) in
    let here : AreFirst after (with_sites (with_sites terms made) (g (f i) ∷ [])) =
    subst (λ t. AreFirst after (with_sites (with_sites terms made) (t ∷ []))) same (h (with_sites terms made) (once_with terms made once) m.stand) in
    let z : 0 + i ≡ i = omega arith in
    let whole : map g (each_place f 0 n) ≡ made ++ g (f i) ∷ map g split.0 =
    ap (map g) (split.1 ∙ ap (λ k. each_place f 0 i ++ f k ∷ split.0) z) ∙ map-append g (each_place f 0 i) (f i ∷ split.0) in
    subst (AreFirst after) (sites_append made (g (f i) ∷ map g split.0) terms ∙ sym (ap (with_sites terms) whole))
    (first_with after (with_sites (with_sites terms made) (g (f i) ∷ [])) (map g split.0) here)) (site_lacks mid first (f i) (λ a c. let k = below a c in omega (arith, k, longer)) after e none)

-- other sites than these, in other words
pub same_lack : (before after : List Site) (us vs : List SiteTerm) (e : VisitFault) → us ≡ vs → LacksRoom before after us e → LacksRoom before after vs e
same_lack before after us vs e same h = subst (λ l. LacksRoom before after l e) same h

-- 4. fields of a member, and of members, have no room
pub member_full : (before after : List Site) (k : Closed) (us : List SiteTerm) (e : VisitFault) → IsDistinct k.made → StandFor before k.made → LacksRoom before after us e
    → EndsFull after (with_made k us) e
member_full before after k us e once stand lacks = grind (arith, common_steps, want_weaker)

pub least_full : (before after : List Site) (k : Closed) (c : Constraint) (least : SiteTerm) (rest : List SiteTerm) (e : VisitFault) → EndsFull after (with_made k (field_terms c least)) e
    → EndsFull after (with_field_terms c k (least ∷ rest)) e
least_full before after k c least rest e full =
    want_weaker (AreFirst after (with_sites k.made (field_terms c least))) (AreFirst after (with_field_terms c k (least ∷ rest)).made) e
    (λ h. subst (AreFirst after) (sites_append (field_terms c least) (flat_map (field_terms c) rest) k.made)
    (first_with after (with_sites k.made (field_terms c least)) (flat_map (field_terms c) rest) h)) full

pub members_full : (first now after : List Site) (d : Demanded) (c : Constraint) (least : SiteTerm) (k : Closed) (fields rest : List ℕ) (i m : ℕ) (all : List SiteTerm) (e : VisitFault) → i < length rest
    → m ≡ get_or rest i m → (j : JoinedSoFar first now d c least k fields all (map (unfold_site first) (drop i rest)))
    → EndsFull after (with_member c least j.so_far (unfold_site first m)) e → EndsFull after (with_field_terms c k (least ∷ all)) e
members_full first now after d c least k fields rest i m all e l is j full =
    let next = with_member c least j.so_far (unfold_site first m) in
    let others = map (unfold_site first) (drop (i + 1) rest) in
    let whole : with_members c least next others ≡ with_field_terms c k (least ∷ all) =
    ap (λ left. with_members c least j.so_far (map (unfold_site first) left)) (sym (rest_is rest i m l is)) ∙ j.whole ∙ fields_at_once c least all k in
    want_weaker (AreFirst after next.made) (AreFirst after (with_field_terms c k (least ∷ all)).made) e
    (λ h. grind (arith, common_steps, members_at_once c least others next, first_with after next.made (flat_map (field_terms c) others) h)) full

-- 5. nor do the classes that are taken later
closing_made : (n : ℕ) (k : Closed) → (more : List SiteTerm) × ((closing n k).made ≡ k.made ++ more)
closing_made n k =
    closing_keeps (λ j. (more : List SiteTerm) × (j.made ≡ k.made ++ more))
    (λ j h c next.
    let made = grows (flat_map (field_terms c.1) (ascending j.made (class_at j.classes c.0))) j.made in
    (h.0 ++ made.0, made.1 ∙ ap (λ l. l ++ made.0) h.1 ∙ append_assoc k.made h.0 made.0)) n k ([], sym (append-nil k.made))

pub closing_full : (after : List Site) (n : ℕ) (k : Closed) (e : VisitFault) → EndsFull after k e → EndsFull after (closing n k) e
closing_full after n k e full = grind (arith, common_steps, closing_made n k, want_weaker (AreFirst after k.made), first_more after k.made)

-- 6. steps of the closing
pub class_full : (sites after : List Site) (d : Demanded) (k : Closed) (h : AreDemandsOf sites d k) (s : ℕ) (due : is_due d s ≡ true) (c : Constraint) (members : List ℕ)
    → ((y : ℕ) → in_set nat_eq members y ≡ are_equated d s y) → IsStrictlySortedBy nat_cmp members → (e : VisitFault)
    → EndsFull after (with_field_terms c (with_asked (without_class k (unfold_site sites s)) (map (unfold_site sites) members) c) (map (unfold_site sites) members)) e
    → EndsFull after (taken k (unfold_site sites s, c) (ascending k.made (class_at k.classes (unfold_site sites s)))) e
class_full sites after d k h s due c members exact sorted e full = grind (arith, common_steps, members_ascend sites d k h s due members exact sorted)

pub one_full : (first now after : List Site) (d e : Demanded) (k : Closed) (n m s : ℕ) (c : C.Constraint) (fault : VisitFault) → ClosedSoFar first now d k n (suc m) → IsNextDue d s c
    → e.constraints ≡ d.constraints → e.equals ≡ d.equals
    → ((q : Closed) → AreDemandsOf now e q → EndsFull after (taken q (unfold_site now s, constraint_view c) (ascending q.made (class_at q.classes (unfold_site now s)))) fault)
    → EndsFull after (closing n k) fault
one_full first now after d e k n m s c fault j due asked equal full =
    let h = j.goes.demands in
    let u : SiteTerm × Constraint = (unfold_site now s, constraint_view c) in
    let next = taken j.so_far u (ascending j.so_far.made (class_at j.so_far.classes (unfold_site now s))) in
    subst (λ q. EndsFull after q fault) (sym (one_step (suc m) m j.so_far u refl (due_next now d j.so_far h s c due)) ∙ j.whole)
    (closing_full after m next fault (full j.so_far (same_demands now d e j.so_far h asked equal)))
