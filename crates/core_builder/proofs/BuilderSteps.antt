-- A builder goes on, step by step, to where a visit stands.
use Rattle.std.proofs.Common.{◌≡◌, ℕ, suc, ◌<◌, ◌≤◌, true, false, if◌then◌else◌, List, [], ◌∷◌, ◌++◌, length, map, All, Option, Some, None, Contains, refl, sym, ap, ◌∙◌, subst, inl, inr, arith, add-one, eqb-true, eq-eqb}
use Rattle.std.specs.Prelude.{nat_eq, nat_lt, Result, OnOk}
use Rattle.std.specs.Global.{Vec}
use Rattle.std.specs.Bool.{◌==◌}
use Rattle.std.proofs.lemmas.Bool.{cases_Bool, cond-true, cond-false, false≢true, le-ltb, lt-ltb}
use Rattle.std.proofs.lemmas.List.{append_assoc, append-nil, length_push, map-append}
use Rattle.std.proofs.lemmas.List.Elements.{All-nil, All-weaker, Contains-append_left, Contains-append_right, Contains-append_cases}
use Rattle.std.proofs.lemmas.Grind.{common_steps}
use Rattle.core_syntax.specs.Stable.{Members, contains}
use Rattle.model.specs.sites.Sites.{Site, Constraint, is_present, SiteTerm, layer, unfold_site}
use Rattle.model.specs.visits.Demands.{site_term_eq, Count, fields_matched, outputs_taken, argument_taken, Visit, with_sites, asking, binding, calling, counting, equating, iterating, making, visit_start}
use Rattle.model.specs.sites.Limits.{arguments_limit, fields_limit, outputs_limit, most_arguments, most_fields, most_outputs, first_passed, passed_by, passed_or_later}
use Rattle.model.specs.sites.Closure.{Closed, conflict_with, conflicts_met, constraint_of, with_constraint, with_constraints, class_at, merged_classes, before_closing}
use Rattle.model.specs.sites.RuleSets.{StandFor}
use Rattle.model.specs.lists.Names.{IsDistinct}
use Rattle.model.proofs.Elements.{In}
use Rattle.model.proofs.Members.{in_alone, in_head, nothing_in}
use Rattle.model.proofs.SameSites.{term_means}
use Rattle.model.proofs.SitesMade.{in_has}
use Rattle.laws_sites.proofs.FollowingDemands.{own_class}
use Rattle.laws_sites.proofs.Continued.{passed_after}
use Rattle.core_rule_sets.specs.SiteDemands.{constraint_held, are_equated, first_kept, IsConflict, equated_too}
use Rattle.core_rule_sets.specs.SiteTables.{AreFirst, ForWantOfRoom, HasNoRoom, HasSources, IsTable, StandsFor, table_sites}
use Rattle.core_rule_sets.specs.SiteViews.{constraint_view}
use Rattle.core_rule_sets.specs.Closings.{AreDemandsOf, KeepsDue}
use Rattle.core_builder.specs.VisitedSites.{AreAnswered, AreCallsNumbered, AsksUnwrapped, IsNextCall, built_sites, conflict_beside, conflict_view, BuilderStandsAt, GoesTo, MakesSite, EndsBefore}
use Rattle.core_syntax.specs.declared.visit_fault.VisitFault.{VisitFault}
use Rattle.core_rule_sets.specs.declared.trie_again.Constraint as C
use Rattle.core_rule_sets.specs.declared.demanded.Demanded.{Demanded}
use Rattle.core_rule_sets.specs.declared.site_table.SiteTable.{SiteTable}
use Rattle.core_builder.specs.declared.ruleset_builder.RuleSetBuilder.{RuleSetBuilder}
use Rattle.core_rule_sets.proofs.ClosingNumbers.{constraint_with}
use Rattle.core_rule_sets.proofs.ClosingSteps.{with_made, with_asked, with_equal, grown, asked_more, equated_more}
use Rattle.core_rule_sets.proofs.ClosingClasses.{merged_append, sites_append}
use Rattle.core_rule_sets.proofs.FullTables.{both_want, want_weaker, site_lacks}
use Rattle.core_rule_sets.proofs.SitesAdded.{same_all}
use Rattle.core_builder.proofs.CallNumbers.{calls_met, next_numbered, none_numbered}

-- 1. demands with one more
pub constraints_append : (as' bs cs : List (SiteTerm × Constraint)) → with_constraints (with_constraints cs as') bs ≡ with_constraints cs (as' ++ bs)
constraints_append [] bs cs = refl
constraints_append (a ∷ as') bs cs = constraints_append as' bs (with_constraint cs a)

-- the constraint of a site in two lists
abbrev pub either_of : Option Constraint → Option Constraint → Option Constraint
either_of o p = elim o as (λ _. Option Constraint) [ None ↦ p | Some b ↦ Some b ]

pub of_both : (cs ds : List (SiteTerm × Constraint)) (u : SiteTerm) → constraint_of (cs ++ ds) u ≡ either_of (constraint_of cs u) (constraint_of ds u)
of_both [] ds u = refl
of_both (c ∷ cs) ds u = grind (arith, common_steps, of_both cs ds u)

-- each site keeps its first constraint
one_kept : (o p : Option Constraint) (c : Constraint) → either_of (Some (first_kept o c)) p ≡ either_of o (Some c)
one_kept o p c = grind (arith, common_steps)

kept_either : (cs ds : List (SiteTerm × Constraint)) (d : SiteTerm × Constraint) (u : SiteTerm) → constraint_of (with_constraint cs d ++ ds) u ≡ constraint_of (cs ++ d ∷ ds) u
kept_either cs ds d u =
    of_both (with_constraint cs d) ds u ∙ ap (λ o. either_of o (constraint_of ds u)) (constraint_with cs d u)
    ∙ elim (cases_Bool (site_term_eq d.0 u)) [
      | inl t ↦ grind (arith, common_steps, term_means d.0 u t, one_kept (constraint_of cs d.0) (constraint_of ds u) d.1, of_both cs (d ∷ ds) u)
      | inr f ↦ grind (arith, common_steps, of_both cs (d ∷ ds) u)
    ]

pub firsts_same : (ds cs : List (SiteTerm × Constraint)) (u : SiteTerm) → constraint_of (with_constraints cs ds) u ≡ constraint_of (cs ++ ds) u
firsts_same [] cs u = ap (λ l. constraint_of l u) (sym (append-nil cs))
firsts_same (d ∷ ds) cs u = firsts_same ds (with_constraint cs d) u ∙ kept_either cs ds d u

pub conflicts_push : (cs had : List (SiteTerm × Constraint)) (c : SiteTerm × Constraint)
    → conflicts_met had (cs ++ c ∷ []) ≡ conflicts_met had cs ++ conflict_with (constraint_of (had ++ cs) c.0) c.1
conflicts_push [] had c = append-nil (conflict_with (constraint_of had c.0) c.1) ∙ ap (λ l. conflict_with (constraint_of l c.0) c.1) (sym (append-nil had))
conflicts_push (d ∷ cs) had c =
    ap (λ l. conflict_with (constraint_of had d.0) d.1 ++ l) (conflicts_push cs (had ++ d ∷ []) c)
    ∙ ap (λ l. conflict_with (constraint_of had d.0) d.1 ++ (conflicts_met (had ++ d ∷ []) cs ++ conflict_with (constraint_of l c.0) c.1)) (append_assoc had (d ∷ []) cs)
    ∙ sym (append_assoc (conflict_with (constraint_of had d.0) d.1) (conflicts_met (had ++ d ∷ []) cs) (conflict_with (constraint_of (had ++ d ∷ cs) c.0) c.1))

equal_already : (ks : List (List SiteTerm)) (a b : SiteTerm) → a ≡ b → merged_classes ks (a, b) ≡ ks
equal_already ks a b e = grind (arith, common_steps, in_has (class_at ks a) b (subst (λ x. In (class_at ks a) x) e (own_class ks a)), own_class ks a)

-- 2. where the closing would start
module _ (before : List SiteTerm) (v : Visit) where
  abbrev start : Visit → Closed
  start w = before_closing before w.demands

  made_too : (us : List SiteTerm) → with_made (start v) us ≡ start (making us v)
  made_too us = λ i. record { constraints = (start v).constraints; classes = (start v).classes; made = sites_append v.demands.made us before i }

  asked_too_start : (u : SiteTerm) (c : Constraint) → with_asked (start v) (u ∷ []) c ≡ start (asking u c v)
  asked_too_start u c = λ i. record { constraints = constraints_append v.demands.constraints ((u, c) ∷ []) [] i; classes = (start v).classes; made = (start v).made }

  equal_too : (a b : SiteTerm) → with_equal (start v) ((a, b) ∷ []) ≡ start (equating a b v)
  equal_too a b =
      elim (cases_Bool (site_term_eq a b)) [
        | inl t ↦
            (λ i. record { constraints = (start v).constraints; classes = equal_already (start v).classes a b (term_means a b t) i; made = (start v).made })
            ∙ ap start (sym (cond-true (site_term_eq a b) v _ t))
        | inr f ↦ grind (arith, common_steps, merged_append v.demands.equalities ((a, b) ∷ []) [])
      ]

  -- the constraint of a site is the first that the visit asked
  held_first : (b : RuleSetBuilder) → BuilderStandsAt before b v → (s : ℕ) → s < length (built_sites b)
      → constraint_held b.demanded s ≡ constraint_of v.demands.constraints (unfold_site (built_sites b) s)
  held_first b h s l = h.demands.asked s l ∙ firsts_same v.demands.constraints [] (unfold_site (built_sites b) s)

-- 3. a site is made
abbrev pub with_table : RuleSetBuilder → SiteTable → RuleSetBuilder
with_table b t = record b { table = t }

module _ (before : List SiteTerm) (b : RuleSetBuilder) (t : SiteTable) (v : Visit) (s : Site) (n : ℕ) (h : BuilderStandsAt before b v) (table : IsTable t)
    (longer : length (built_sites b) ≤ length (table_sites t))
    (stand : (terms : List SiteTerm) → IsDistinct terms → StandFor (built_sites b) terms → StandsFor (built_sites b) (table_sites t) terms s n) where
  abbrev u : SiteTerm
  u = layer (unfold_site (built_sites b)) s

  st : StandsFor (built_sites b) (table_sites t) (before_closing before v.demands).made s n
  st = stand (before_closing before v.demands).made h.demands.once h.demands.stand

  pub site_made : MakesSite before b (with_table b t) v u n
  site_made = record {
    goes = record {
      stands = record {
        table = table;
        due = h.due;
        demands = subst (AreDemandsOf (table_sites t) b.demanded) (made_too before v (u ∷ []))
            (grown (built_sites b) b.demanded (before_closing before v.demands) h.demands (table_sites t) (u ∷ []) st.stand st.kept longer);
        conflicts = h.conflicts;
        gone_over = λ r c. let g = h.gone_over r c in let l = g.0 in (omega (arith, l, longer), subst (Contains v.demands.iterators) (sym (st.kept r l)) g.1);
        all_gone_over = λ w c. let g = h.all_gone_over w c in (g.0, g.1, st.kept g.0 (h.gone_over g.0 g.1).0 ∙ g.2);
        impure = record {
          within = All-weaker (λ r. r < length (built_sites b)) (λ r. r < length (table_sites t)) (λ r l. omega (arith, l, longer)) b.impure.items h.impure.within;
          numbers = same_all (unfold_site (table_sites t)) (unfold_site (built_sites b)) (length (built_sites b)) b.impure.items st.kept h.impure.within ∙ h.impure.numbers;
        };
        calls = h.calls;
        numbered = h.numbered;
        answered = λ r c. let g = h.answered r c in let l = g.0 in (omega (arith, l, longer), subst (AsksUnwrapped v) (sym (st.kept r l)) g.1);
        few = h.few;
      };
      kept = st.kept;
      longer = longer;
    };
    site = record { within = st.within; number = st.number };
  }

-- there is no room for it
pub site_ends : (before : List SiteTerm) (b : RuleSetBuilder) (t : SiteTable) (v : Visit) (s : Site) (e : VisitFault) → BuilderStandsAt before b v → HasSources (built_sites b) s
    → HasNoRoom (built_sites b) (table_sites t) s e → ForWantOfRoom (IsTable t) e → EndsBefore before (with_table b t) (making (layer (unfold_site (built_sites b)) s ∷ []) v) e
site_ends before b t v s e h below none table =
    let us = layer (unfold_site (built_sites b)) s ∷ [] in
    both_want (IsTable t) (AreFirst (table_sites t) (with_sites before (v.demands.made ++ us))) e table
    (want_weaker ((terms : List SiteTerm) → IsDistinct terms → StandFor (built_sites b) terms → AreFirst (table_sites t) (with_sites terms us))
    (AreFirst (table_sites t) (with_sites before (v.demands.made ++ us))) e
    (λ g. subst (AreFirst (table_sites t)) (sites_append v.demands.made us before) (g (with_sites before v.demands.made) h.demands.once h.demands.stand))
    (site_lacks (built_sites b) h.table.sources s below (table_sites t) e none))

-- 4. a site is asked something
abbrev pub with_demanded : RuleSetBuilder → Demanded → Vec (C.Constraint × C.Constraint) → RuleSetBuilder
with_demanded b e w = record b { demanded = e; conflicts = w }

module _ (before : List SiteTerm) (b : RuleSetBuilder) (v : Visit) (h : BuilderStandsAt before b v) where
  abbrev sites : List Site
  sites = built_sites b

  abbrev f : ℕ → SiteTerm
  f = unfold_site sites

  pub noted : (o : Option C.Constraint) (had : Option Constraint) (c : Constraint) → IsConflict had c o → conflict_beside o c ≡ conflict_with had c
  noted o had c h = grind (arith, common_steps)

  pub site_asked : (e : Demanded) (w : Vec (C.Constraint × C.Constraint)) (s : ℕ) (c : C.Constraint) → s < length sites → KeepsDue e → e.equals ≡ b.demanded.equals
      → ((r : ℕ) → constraint_held e r ≡ (if nat_eq s r then Some (first_kept (constraint_held b.demanded s) (constraint_view c)) else constraint_held b.demanded r))
      → map conflict_view w.items ≡ map conflict_view b.conflicts.items ++ conflict_with (constraint_held b.demanded s) (constraint_view c)
      → GoesTo before b (with_demanded b e w) (asking (f s) (constraint_view c) v)
  site_asked e w s c l due equal asked met =
      let k = constraint_view c in
      record {
        stands = record {
          table = h.table;
          due = due;
          demands = subst (AreDemandsOf sites e) (asked_too_start before v (f s) k)
              (asked_more sites b.demanded (before_closing before v.demands) h.demands e (s ∷ []) k (λ x i. elim i [ inl y ↦ subst (λ z. z < length sites) y l | inr n ↦ absurd n ]) equal asked);
          conflicts = grind (arith, common_steps, held_first before v b h s l, conflicts_push v.demands.constraints [] (f s, k));
          gone_over = h.gone_over;
          all_gone_over = h.all_gone_over;
          impure = record { within = h.impure.within; numbers = h.impure.numbers };
          calls = h.calls;
          numbered = h.numbered;
          answered = λ r t. let g = h.answered r t in (g.0, λ u i. Contains-append_left v.demands.constraints ((f s, k) ∷ []) (u, is_present) (g.1 u i));
          few = h.few;
        };
        kept = λ r m. refl;
        longer = omega arith;
      }

  pub sites_equated : (e : Demanded) (x y : ℕ) → x < length sites → y < length sites → KeepsDue e → e.constraints ≡ b.demanded.constraints
      → ((p q : ℕ) → are_equated e p q ≡ equated_too (are_equated b.demanded) x y p q)
      → GoesTo before b (with_demanded b e b.conflicts) (equating (f x) (f y) v)
  sites_equated e x y l m due asked equal =
      let demands = subst (AreDemandsOf sites e) (equal_too before v (f x) (f y))
      (grind (arith, common_steps, equated_more sites b.demanded (before_closing before v.demands) h.demands e (x ∷ []) (y ∷ []))) in
      elim (cases_Bool (site_term_eq (f x) (f y))) [
        | inl t ↦ let is = cond-true (site_term_eq (f x) (f y)) v _ t in subst (GoesTo before b (with_demanded b e b.conflicts)) (sym is) (gone_on v (subst (λ w. AreDemandsOf sites e (before_closing before w.demands)) is demands) refl refl refl refl refl)
        | inr t ↦ let is = cond-false (site_term_eq (f x) (f y)) v _ t in subst (GoesTo before b (with_demanded b e b.conflicts)) (sym is) (gone_on _ (subst (λ w. AreDemandsOf sites e (before_closing before w.demands)) is demands) refl refl refl refl refl)
      ]
    where
      gone_on : (w : Visit) → AreDemandsOf sites e (before_closing before w.demands) → w.demands.constraints ≡ v.demands.constraints → w.demands.iterators ≡ v.demands.iterators
          → w.demands.impure ≡ v.demands.impure → w.impure_calls ≡ v.impure_calls → w.demands.counted ≡ v.demands.counted → GoesTo before b (with_demanded b e b.conflicts) w
      gone_on w demands cs its im calls counted = record {
        stands = record {
          table = h.table;
          due = due;
          demands = demands;
          conflicts = h.conflicts ∙ ap (conflicts_met []) (sym cs);
          gone_over = λ r c. let g = h.gone_over r c in (g.0, subst (λ l. Contains l (f r)) (sym its) g.1);
          all_gone_over = λ u c. h.all_gone_over u (subst (λ l. Contains l u) its c);
          impure = record { within = h.impure.within; numbers = h.impure.numbers ∙ sym im };
          calls = h.calls ∙ sym calls;
          numbered = subst AreCallsNumbered (sym im) h.numbered;
          answered = λ r c. let g = h.answered r c in (g.0, λ u i. subst (λ l. Contains l (u, is_present)) (sym cs) (g.1 u i));
          few = ap first_passed counted ∙ h.few;
        };
        kept = λ r m. refl;
        longer = omega arith;
      }

  -- 5. a call is gone over, or is one of the impure ones
  pub call_gone_over : (its : Members ℕ) (s : ℕ) → s < length sites → ((x : ℕ) → contains ◌==◌ its x ≡ (if s == x then true else contains ◌==◌ b.iterators x))
      → GoesTo before b (record b { iterators = its }) (iterating (f s) v)
  call_gone_over its s l has = record {
    stands = record {
      table = h.table;
      due = h.due;
      demands = h.demands;
      conflicts = h.conflicts;
      gone_over = λ x c.
          elim (cases_Bool (s == x)) [
            | inl t ↦ let e = eqb-true s x t in (subst (λ z. z < length sites) e l, Contains-append_right v.demands.iterators (f s ∷ []) (f x) (subst (λ z. Contains (f s ∷ []) (f z)) e (in_head (f s) [])))
            | inr n ↦ let g = h.gone_over x (sym (has x ∙ cond-false (s == x) true (contains ◌==◌ b.iterators x) n) ∙ c) in (g.0, Contains-append_left v.demands.iterators (f s ∷ []) (f x) g.1)
          ];
      all_gone_over = λ u c.
          elim (Contains-append_cases v.demands.iterators (f s ∷ []) u c) [
            | inl i ↦ grind (arith, common_steps, h.all_gone_over u i)
            | inr i ↦ (s, has s ∙ cond-true (s == s) true (contains ◌==◌ b.iterators s) (eq-eqb s s refl), in_alone (f s) u i)
          ];
      impure = record { within = h.impure.within; numbers = h.impure.numbers };
      calls = h.calls;
      numbered = h.numbered;
      answered = h.answered;
      few = h.few;
    };
    kept = λ r m. refl;
    longer = omega arith;
  }

  pub call_made : (im : Vec ℕ) (s : ℕ) → s < length sites → IsNextCall b v s → im.items ≡ b.impure.items ++ s ∷ []
      → GoesTo before b (record b { impure = im }) (calling (f s) v)
  call_made im s l next pushed = record {
    stands = record {
      table = h.table;
      due = h.due;
      demands = h.demands;
      conflicts = h.conflicts;
      gone_over = h.gone_over;
      all_gone_over = h.all_gone_over;
      impure = grind (arith, common_steps, map-append f b.impure.items (s ∷ []));
      calls = ap length pushed ∙ length_push b.impure.items s ∙ add-one (length b.impure.items) ∙ ap suc h.calls;
      numbered = next_numbered v.demands.impure (f s) h.numbered (next ∙ ap suc (sym (calls_met before b v h)));
      answered = h.answered;
      few = h.few;
    };
    kept = λ r m. refl;
    longer = omega arith;
  }

pub ok_both : {T E : Type 0} (P Q : Type 0) (r : Result T E) → OnOk r P → OnOk r Q → OnOk r (P × Q)
ok_both P Q r p q = grind (arith, common_steps)

-- 6. a variable is bound
pub bound_stands : (before : List SiteTerm) (b : RuleSetBuilder) (v : Visit) (x : ℕ) (u : SiteTerm) → BuilderStandsAt before b v → BuilderStandsAt before b (binding x u v)
bound_stands before b v x u h = grind (arith, common_steps)

-- 7. something is counted that passes no limit
pub fields_pass : (n : ℕ) → n ≤ most_fields → passed_by (fields_matched n) ≡ None
fields_pass n l = cond-false (nat_lt most_fields n) (Some fields_limit) None (le-ltb most_fields n l)

pub outputs_pass : (n : ℕ) → n ≤ most_outputs → passed_by (outputs_taken n) ≡ None
outputs_pass n l = cond-false (nat_lt most_outputs n) (Some outputs_limit) None (le-ltb most_outputs n l)

pub argument_passes : (i : ℕ) → i < most_arguments → passed_by (argument_taken i) ≡ None
argument_passes i l = cond-true (nat_lt i most_arguments) None (Some arguments_limit) (lt-ltb i most_arguments l)

-- the first limit that is passed, with one more count
pub one_more_count : (cs : List (Count × ℕ)) (c : Count) (n : ℕ) → first_passed cs ≡ None → first_passed (cs ++ (c, n) ∷ []) ≡ passed_or_later (passed_by c) n None
one_more_count cs c n none = passed_after cs ((c, n) ∷ []) none

pub counted_stands : (before : List SiteTerm) (b : RuleSetBuilder) (v : Visit) (c : Count) → BuilderStandsAt before b v → passed_by c ≡ None → BuilderStandsAt before b (counting c v)
counted_stands before b v c h none = grind (arith, common_steps, one_more_count v.demands.counted c (length v.demands.made) h.few)

-- before a visit
pub nothing_answered : (sites : List Site) (v : Visit) (none : Members ℕ) → ((s : ℕ) → contains ◌==◌ none s ≡ false) → AreAnswered sites v none
nothing_answered sites v none e s t = absurd (false≢true (sym (e s) ∙ t))

pub nothing_visited : (before : List SiteTerm) (b : RuleSetBuilder) → IsTable b.table → KeepsDue b.demanded → IsDistinct before → StandFor (built_sites b) before → ((s : ℕ) → constraint_held b.demanded s ≡ None)
    → ((p q : ℕ) → are_equated b.demanded p q ≡ false) → b.conflicts.items ≡ [] → ((x : ℕ) → contains ◌==◌ b.iterators x ≡ false) → b.impure.items ≡ [] → ((x : ℕ) → contains ◌==◌ b.answered x ≡ false) → BuilderStandsAt before b visit_start
nothing_visited before b table due once stand asked equal no_conflict no_iterator no_call no_answer = record {
  table = table;
  due = due;
  demands = grind (arith, common_steps, nothing_in);
  conflicts = ap (map conflict_view) no_conflict;
  gone_over = λ s t. absurd (false≢true (sym (no_iterator s) ∙ t));
  all_gone_over = λ u i. absurd (nothing_in u i);
  impure = record { within = subst (All (λ r. r < length (built_sites b))) (sym no_call) (All-nil (λ r. r < length (built_sites b))); numbers = ap (map (unfold_site (built_sites b))) no_call };
  calls = ap length no_call;
  numbered = none_numbered;
  answered = nothing_answered (built_sites b) visit_start b.answered no_answer;
  few = refl;
}

-- and without any site
pub no_sites : (sites : List Site) → sites ≡ [] → StandFor sites []
no_sites sites none = let empty : length sites ≡ 0 = ap length none in record { exact = λ s l. absurd (omega (arith, l, empty)); count = empty }
