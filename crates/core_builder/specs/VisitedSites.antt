-- Where a builder of a rule set stands while a rule is visited: its sites and demands are those that the visit has met, by
-- their numbers.
use Rattle.std.specs.Prelude.{◌≡◌, ◌⊎◌, slice_get, ℕ, suc, ◌<◌, ◌≤◌, Bool, not, if◌then◌else◌, List, [], ◌∷◌, length, map, take, Option, Some, None, Result, MatchResult, All, Contains, IsTrue}
use Rattle.std.specs.Bool.{◌==◌}
use Rattle.std.specs.Ordering.{nat_cmp}
use Rattle.std.specs.BTreeSet.{insert_key}
use Rattle.core_syntax.specs.Stable.{Members, contains}
use Rattle.model.specs.sites.Sites as Sites
use Rattle.model.specs.sites.Sites.{Site, SiteTerm, SiteTerms, argument, constructor_call, each_term, extract_struct_site, extractor_call, is_present, match_some_site, match_tuple_site, match_variant_site, pick_of, some_part, struct_field, tuple_part, unfold_site, variant_field}
use Rattle.model.specs.rules.Program.{Program}
use Rattle.model.specs.rules.Typed.{TypedPatterns, TypedRule}
use Rattle.model.specs.lists.Tables.{Flags}
use Rattle.model.specs.sites.Limits.{RuleLimit, arguments_limit, fields_limit, first_limit, first_passed, most_arguments, most_fields, most_outputs, outputs_limit, sites_after_rule, sites_limit}
use Rattle.model.specs.sites.RuleSets.{StandFor}
use Rattle.model.specs.visits.Demands.{Visit, Valued, valued, visit_call, call_result, Opened, open_call, pattern_count, with_sites, asking, asking_all, equating, iterating, making, taking_argument, unwraps, fields_opened}
use Rattle.model.specs.sites.Closure.{Unreachability, conflict, conflicts_met, before_closing}
use Rattle.laws_sites.specs.Followers.{AsksNothingElse}
use Rattle.core_syntax.specs.declared.syntax.Limit.{Limit}
use Rattle.core_syntax.specs.declared.syntax.Limit.TheVariants as Limits
use Rattle.core_syntax.specs.declared.visit_fault.VisitFault.{VisitFault}
use Rattle.core_syntax.specs.declared.visit_fault.VisitFault.TheVariants as Faults
use Rattle.core_rule_sets.specs.SiteTables.{AreFirst, ForWantOfRoom, IsTable, table_sites}
use Rattle.core_rule_sets.specs.SiteViews.{constraint_view}
use Rattle.core_rule_sets.specs.Closings.{AreDemandsOf, KeepsDue}
use Rattle.core_rule_sets.specs.declared.trie_again.Constraint.{Constraint}
use Rattle.core_builder.specs.declared.builder_patterns.Parts.{Parts}
use Rattle.core_builder.specs.declared.builder_patterns.Parts.TheVariants as AllParts
use Rattle.core_builder.specs.declared.ruleset_builder.RuleSetBuilder.{RuleSetBuilder}

-- the sites of a builder's table
abbrev pub built_sites : RuleSetBuilder → List Site
built_sites b = table_sites b.table

-- a number of a builder's site, and what it stands for
pub record IsSiteOf (b : RuleSetBuilder) (u : SiteTerm) (n : ℕ) : Type 0 where
  pub within : n < length (built_sites b)
  pub number : unfold_site (built_sites b) n ≡ u

-- likewise of lists
pub record AreSitesOf (b : RuleSetBuilder) (us : List SiteTerm) (ns : List ℕ) : Type 0 where
  pub within : All (λ n. n < length (built_sites b)) ns
  pub numbers : map (unfold_site (built_sites b)) ns ≡ us

-- two constraints that one site was asked to meet, the first one first
abbrev pub conflict_view : Constraint × Constraint → Unreachability
conflict_view c = conflict (constraint_view c.0) (constraint_view c.1)

-- the conflict of a constraint with the first one of its site, if there is one
abbrev pub conflict_beside : Option Constraint → Sites.Constraint → List Unreachability
conflict_beside None c = []
conflict_beside (Some b) c = conflict (constraint_view b) c ∷ []

-- a visit has asked each call that a value unwraps to answer
abbrev pub AsksUnwrapped : Visit → SiteTerm → Type 0
AsksUnwrapped v u = (call : SiteTerm) → Contains (unwraps u) call → Contains v.demands.constraints (call, is_present)

-- and so for each of these sites of a builder
abbrev pub AreAnswered : List Site → Visit → Members ℕ → Type 0
AreAnswered sites v walked = (s : ℕ) → IsTrue (contains ◌==◌ walked s) → (s < length sites) × AsksUnwrapped v (unfold_site sites s)

-- the number of a constructor's call among the impure ones of its rule, at the call and at what it gives
abbrev pub call_number : SiteTerm → ℕ
call_number (constructor_call t args i) = i
call_number (some_part call) = call_number call
call_number (pick_of call) = call_number call
call_number _ = 0

-- the impure calls that a visit has met have the numbers from 1 on, in order
abbrev pub AreCallsNumbered : List SiteTerm → Type 0
AreCallsNumbered calls = (i : ℕ) (u : SiteTerm) → slice_get calls i ≡ Some u → call_number u ≡ suc i

-- a site of a builder is the next impure call of a visit, or what that gives
abbrev pub IsNextCall : RuleSetBuilder → Visit → ℕ → Type 0
IsNextCall b v s = call_number (unfold_site (built_sites b) s) ≡ suc v.impure_calls

-- a builder stands where a visit does, after these sites of the term's rules before: it has the sites that were made
-- before or in the visit, the demands that the visit has met, the conflicts among them in their order, the calls that the
-- rule goes over, its impure calls in order, as many as were met, each with its own number, and sites whose unwrapped
-- calls are asked to answer; and nothing that was counted so far passes a limit
pub record BuilderStandsAt (before : List SiteTerm) (b : RuleSetBuilder) (v : Visit) : Type 0 where
  pub table : IsTable b.table
  pub due : KeepsDue b.demanded
  pub demands : AreDemandsOf (built_sites b) b.demanded (before_closing before v.demands)
  pub conflicts : map conflict_view b.conflicts.items ≡ conflicts_met [] v.demands.constraints
  pub gone_over : (s : ℕ) → IsTrue (contains ◌==◌ b.iterators s) → (s < length (built_sites b)) × Contains v.demands.iterators (unfold_site (built_sites b) s)
  pub all_gone_over : (u : SiteTerm) → Contains v.demands.iterators u → (s : ℕ) × IsTrue (contains ◌==◌ b.iterators s) × (unfold_site (built_sites b) s ≡ u)
  pub impure : AreSitesOf b v.demands.impure b.impure.items
  pub calls : length b.impure.items ≡ v.impure_calls
  pub numbered : AreCallsNumbered v.demands.impure
  pub answered : AreAnswered (built_sites b) v b.answered
  pub few : first_passed v.demands.counted ≡ None

-- a builder has gone on to stand where a visit does, and the sites that it had stand for what they did
pub record GoesTo (before : List SiteTerm) (old new : RuleSetBuilder) (v : Visit) : Type 0 where
  pub stands : BuilderStandsAt before new v
  pub kept : (s : ℕ) → s < length (built_sites old) → unfold_site (built_sites new) s ≡ unfold_site (built_sites old) s
  pub longer : length (built_sites old) ≤ length (built_sites new)

-- a builder has gone on by making a site, which has this number
pub record MakesSite (before : List SiteTerm) (old new : RuleSetBuilder) (v : Visit) (u : SiteTerm) (n : ℕ) : Type 0 where
  pub goes : GoesTo before old new (making (u ∷ []) v)
  pub site : IsSiteOf new u n

-- a builder ended on its way to where a visit stands: memory was refused, or there was no room, and then its table has the
-- first of the sites that were made before or would be by then
abbrev pub EndsBefore : List SiteTerm → RuleSetBuilder → Visit → VisitFault → Type 0
EndsBefore before b v e = ForWantOfRoom (IsTable b.table × AreFirst (built_sites b) (with_sites before v.demands.made)) e

-- a builder has these sites
pub record HasSites (b : RuleSetBuilder) (terms : List SiteTerm) : Type 0 where
  pub table : IsTable b.table
  pub stand : StandFor (built_sites b) terms

-- the sites that a visit made, beside those before: until the first count that passes a limit, if one does
abbrev pub with_made_until : List SiteTerm → List SiteTerm → Option (RuleLimit × ℕ) → List SiteTerm
with_made_until before made (Some passed) = with_sites before (take passed.1 made)
with_made_until before made None = with_sites before made

abbrev pub sites_made : List SiteTerm → Visit → List SiteTerm
sites_made before v = with_made_until before v.demands.made (first_passed v.demands.counted)

-- the first limit that the counts of a visit pass is this one, and a builder has the sites that were made until then
pub record MeetsCount (before : List SiteTerm) (b : RuleSetBuilder) (v : Visit) (l : RuleLimit) : Type 0 where
  pub made : ℕ
  pub first : first_passed v.demands.counted ≡ Some (l, made)
  pub until : made ≤ length v.demands.made
  pub sites : HasSites b (with_sites before (take made v.demands.made))

-- a builder ended on the way of a visit: memory was refused; or a limit was met, and then the builder has the sites that were
-- made until then; where there was no room for one more, it has the first of them
abbrev pub EndsVisit : List SiteTerm → RuleSetBuilder → Visit → VisitFault → Type 0
EndsVisit before b v (Faults.Memory e) = Unit {0}
EndsVisit before b v (Faults.Limit Limits.Fields) = MeetsCount before b v fields_limit
EndsVisit before b v (Faults.Limit Limits.Outputs) = MeetsCount before b v outputs_limit
EndsVisit before b v (Faults.Limit Limits.Arguments) = MeetsCount before b v arguments_limit
EndsVisit before b v (Faults.Limit Limits.Sites) = IsTable b.table × AreFirst (built_sites b) (sites_made before v)
EndsVisit before b v _ = ⊥

-- of the limits that a rule passes, after the sites of the rules before, a builder met this one first, and has the sites that
-- were made until then
pub record MeetsLimit (p : Program) (before : List SiteTerm) (r : TypedRule) (b : RuleSetBuilder) (l : RuleLimit) : Type 0 where
  pub first : first_limit p before r ≡ Some l
  pub sites : HasSites b (sites_after_rule p before r)

-- why the visit of a rule ended early: memory was refused, or a limit was met
abbrev pub EndsAtLimit : Program → List SiteTerm → TypedRule → RuleSetBuilder → VisitFault → Type 0
EndsAtLimit p before r b (Faults.Memory e) = Unit {0}
EndsAtLimit p before r b (Faults.Limit Limits.Fields) = MeetsLimit p before r b fields_limit
EndsAtLimit p before r b (Faults.Limit Limits.Outputs) = MeetsLimit p before r b outputs_limit
EndsAtLimit p before r b (Faults.Limit Limits.Arguments) = MeetsLimit p before r b arguments_limit
EndsAtLimit p before r b (Faults.Limit Limits.Sites) = MeetsLimit p before r b sites_limit
EndsAtLimit p before r b _ = ⊥

-- a builder has gone on by making sites, which have these numbers
pub record MakesAll (before : List SiteTerm) (old new : RuleSetBuilder) (v : Visit) (us : List SiteTerm) (ns : List ℕ) : Type 0 where
  pub goes : GoesTo before old new (making us v)
  pub sites : AreSitesOf new us ns

-- the part of a site at a place, and what it stands for
abbrev pub part_site : Parts → ℕ → ℕ → Site
part_site (AllParts.Variant variant) source i = match_variant_site source variant.0 i
part_site AllParts.Struct source i = extract_struct_site source i
part_site AllParts.Outputs source i = match_tuple_site source i

abbrev pub part_of : Parts → SiteTerm → ℕ → SiteTerm
part_of (AllParts.Variant variant) u = variant_field u variant.0
part_of AllParts.Struct u = struct_field u
part_of AllParts.Outputs u = tuple_part u

-- a builder has gone on to where the parts of a term's pattern are open: they have these numbers
pub record OpensTo (before : List SiteTerm) (old new : RuleSetBuilder) (o : Opened) (ns : List ℕ) : Type 0 where
  pub goes : GoesTo before old new o.visit
  pub inputs : AreSitesOf new o.inputs ns

-- a builder ended on its way to where a visit stands, or by a limit once it stood there
abbrev pub EndsBy : List SiteTerm → RuleSetBuilder → Limit → Visit → VisitFault → Type 0
EndsBy before b l v e = EndsBefore before b v e ⊎ ((e ≡ Faults.Limit l) × BuilderStandsAt before b v)

-- a builder that was to open so many parts ended: on its way to where the one visit stands, if there are no more than there
-- may be; and else by the limit on their number, at the latest where the other stands
abbrev pub EndsOpening : List SiteTerm → RuleSetBuilder → Visit → Limit → ℕ → ℕ → Visit → VisitFault → Type 0
EndsOpening before b w l most count v e = ((count ≤ most) × EndsBefore before b w e) ⊎ ((most < count) × EndsBy before b l v e)

-- what an extractor's call answers: one of many answers, the call itself, or what is in it
abbrev pub answer_of : Bool → Bool → SiteTerm → SiteTerm
answer_of multi infallible call = if multi then pick_of call else (if infallible then call else some_part call)

-- where a visit stands once a call that it made has answered
abbrev pub answered : Bool → Bool → SiteTerm → Visit → Visit
answered multi infallible call v =
    if multi
    then iterating call (making (pick_of call ∷ []) v)
    else (if infallible then v else asking call is_present (making (some_part call ∷ []) v))

-- a builder has gone on to where a call has answered, by this number
pub record AnswersTo (before : List SiteTerm) (old new : RuleSetBuilder) (multi infallible : Bool) (call : SiteTerm) (v : Visit) (n : ℕ) : Type 0 where
  pub goes : GoesTo before old new (answered multi infallible call v)
  pub site : IsSiteOf new (answer_of multi infallible call) n

-- what a builder does with a call that changes nothing but demands: it goes to where the visit stands that follows, for
-- each visit at which it stands
abbrev pub Follows : RuleSetBuilder → RuleSetBuilder → Result (Unit {0}) VisitFault → (Visit → Visit) → Type 0
Follows old new r next =
    (before : List SiteTerm) (v : Visit) → BuilderStandsAt before old v → MatchResult r (λ _. GoesTo before old new (next v)) (EndsBefore before new (next v))

-- what it does with a call that asks something of a site
abbrev pub Asks : Sites.Constraint → RuleSetBuilder → ℕ → Result (Unit {0}) VisitFault → RuleSetBuilder → Type 0
Asks c old s r new = s < length (built_sites old) → Follows old new r (asking (unfold_site (built_sites old) s) c)

-- and with a call that makes two sites equal
abbrev pub AsksEqual : RuleSetBuilder → ℕ → ℕ → Result (Unit {0}) VisitFault → RuleSetBuilder → Type 0
AsksEqual old a b r new =
    a < length (built_sites old) → b < length (built_sites old)
    → Follows old new r (equating (unfold_site (built_sites old) a) (unfold_site (built_sites old) b))

-- and with a call that opens the fields which a constraint gives a site, so many
abbrev pub OpensFields : Sites.Constraint → ℕ → RuleSetBuilder → ℕ → Result (List ℕ) VisitFault → RuleSetBuilder → Type 0
OpensFields c count old s r new =
    (before : List SiteTerm) (v : Visit) → BuilderStandsAt before old v → s < length (built_sites old)
    → MatchResult r (λ ids. (count ≤ most_fields) × OpensTo before old new (fields_opened c count (unfold_site (built_sites old) s) v) ids)
    (EndsOpening before new (fields_opened c count (unfold_site (built_sites old) s) v).visit Limits.Fields most_fields count v)

-- and with a call that opens the outputs of an extractor, so many
abbrev pub OpensExtractor : ℕ → ℕ → Bool → Bool → RuleSetBuilder → ℕ → Result (List ℕ) VisitFault → RuleSetBuilder → Type 0
OpensExtractor term count infallible multi old s r new =
    (before : List SiteTerm) (v : Visit) (flags : Flags) (args : TypedPatterns) → BuilderStandsAt before old v → s < length (built_sites old)
    → flags.multi ≡ multi → pattern_count args ≡ count
    → let call = extractor_call term (unfold_site (built_sites old) s) in
    MatchResult r (λ ids. (count ≤ most_outputs) × OpensTo before old new (open_call flags infallible call args v) ids)
    (EndsOpening before new (open_call flags infallible call args v).visit Limits.Outputs most_outputs count
    (answered multi infallible call (making (call ∷ []) v)))

-- the sites that are made for what a constructor's call gives
abbrev pub value_sites : Flags → SiteTerm → List SiteTerm
value_sites flags call = if flags.partial then some_part call ∷ [] else (if flags.multi then pick_of call ∷ [] else [])

-- a builder has gone on by making what a call gives, which has this number
pub record MakesValue (before : List SiteTerm) (old new : RuleSetBuilder) (flags : Flags) (call : SiteTerm) (v : Visit) (n : ℕ) : Type 0 where
  pub goes : GoesTo before old new (making (value_sites flags call) v)
  pub site : IsSiteOf new (call_result flags call) n

-- a builder has gone on to where a visit stands that has a value, which has this number
pub record ValuesTo (before : List SiteTerm) (old new : RuleSetBuilder) (w : Valued) (n : ℕ) : Type 0 where
  pub goes : GoesTo before old new w.visit
  pub site : IsSiteOf new w.site n

-- what a builder does with a call that gives a value: it goes to where the visit stands that follows, for each visit at
-- which it stands, with the value's number
abbrev pub GivesValue : RuleSetBuilder → RuleSetBuilder → Result ℕ VisitFault → (Visit → Valued) → Type 0
GivesValue old new r next =
    (before : List SiteTerm) (v : Visit) → BuilderStandsAt before old v → MatchResult r (ValuesTo before old new (next v)) (EndsBefore before new (next v).visit)

-- values that are handed over, each with a type, by their numbers
abbrev pub input_ids : List (ℕ × ℕ) → List ℕ
input_ids inputs = map (λ x. x.0) inputs

abbrev pub HaveSites : RuleSetBuilder → List (ℕ × ℕ) → Type 0
HaveSites b inputs = All (λ n. n < length (built_sites b)) (input_ids inputs)

-- what they stand for
abbrev pub input_terms : RuleSetBuilder → List (ℕ × ℕ) → SiteTerms
input_terms b inputs = each_term (unfold_site (built_sites b)) (input_ids inputs)

-- what a builder does with a constructor's call
abbrev pub Constructs : ℕ → Bool → Bool → Bool → RuleSetBuilder → List (ℕ × ℕ) → Result ℕ VisitFault → RuleSetBuilder → Type 0
Constructs term pure infallible multi old inputs r new =
    (flags : Flags) → flags.pure ≡ pure → flags.partial ≡ not infallible → flags.multi ≡ multi
    → HaveSites old inputs → GivesValue old new r (visit_call flags term (input_terms old inputs))

-- and with an argument, which is counted before it is made, since its number has to fit
abbrev pub MakesArgument : ℕ → RuleSetBuilder → Result ℕ VisitFault → RuleSetBuilder → Type 0
MakesArgument i old r new =
    (before : List SiteTerm) (v : Visit) → BuilderStandsAt before old v
    → MatchResult r (λ n. (i < most_arguments) × ValuesTo before old new (valued (argument i) (taking_argument i v)) n)
    (EndsOpening before new (taking_argument i v) Limits.Arguments most_arguments (suc i) v)

-- keys of a set, and these
abbrev pub with_keys : List ℕ → List ℕ → List ℕ
with_keys keys [] = keys
with_keys keys (n ∷ ns) = with_keys (insert_key nat_cmp keys n) ns

-- the call whose answer a site unwraps, if it does
abbrev pub unwrapped_source : Site → List ℕ
unwrapped_source (match_some_site source) = source ∷ []
unwrapped_source _ = []

abbrev pub unwrapped_at : List Site → ℕ → List ℕ
unwrapped_at sites s = elim (slice_get sites s) [ None ↦ [] | Some b ↦ unwrapped_source b ]

-- what a site unwraps, at any depth, is one of these calls, or a site that was walked before unwraps it
abbrev pub IsWalked : List Site → Members ℕ → List ℕ → ℕ → Type 0
IsWalked sites before calls s =
    (u : SiteTerm) → Contains (unwraps (unfold_site sites s)) u
    → Contains (map (unfold_site sites) calls) u ⊎ ((t : ℕ) × IsTrue (contains ◌==◌ before t) × Contains (unwraps (unfold_site sites t)) u)

-- a site was walked, and others beside those that were before: these calls are among those whose answers it unwraps, in
-- whatever order
pub record AreUnwrapped (sites : List Site) (s : ℕ) (before after : Members ℕ) (calls : List ℕ) : Type 0 where
  pub within : All (λ n. n < length sites) calls
  pub unwrapped : (u : SiteTerm) → Contains (map (unfold_site sites) calls) u → Contains (unwraps (unfold_site sites s)) u
  pub all : IsWalked sites before calls s
  pub walked : (t : ℕ) → IsTrue (contains ◌==◌ after t) → IsTrue (contains ◌==◌ before t) ⊎ ((t < length sites) × IsWalked sites before calls t)

-- and with a value that a pattern is for: each call that it unwraps is asked to answer
abbrev pub AsksAnswers : RuleSetBuilder → ℕ → Result ℕ VisitFault → RuleSetBuilder → Type 0
AsksAnswers old s r new =
    (before : List SiteTerm) (v : Visit) → BuilderStandsAt before old v → s < length (built_sites old) → AsksNothingElse v (unfold_site (built_sites old) s)
    → let w = asking_all (unwraps (unfold_site (built_sites old) s)) v in MatchResult r (λ n. (n ≡ s) × GoesTo before old new w) (EndsBefore before new w)
