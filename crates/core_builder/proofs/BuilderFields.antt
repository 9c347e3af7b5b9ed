-- A builder makes sites one after another.
use Rattle.std.proofs.Common.{◌≡◌, Bool, Contains, true, false, if◌then◌else◌, inl, inr, ℕ, zero, suc, ◌+◌, ◌<◌, ◌≤◌, List, [], ◌∷◌, ◌++◌, length, refl, sym, ap, ap₂, ◌∙◌, subst, arith, add-one}
use Rattle.std.specs.Prelude.{Result, IfOk, IfErr, MatchResult}
use Rattle.std.specs.Global.{Vec}
use Rattle.core_typed.specs.VisitAnswers.{listed}
use Rattle.std.proofs.lemmas.List.{append_assoc, append-nil, map-append}
use Rattle.std.proofs.lemmas.Bool.{cases_lt}
use Rattle.std.proofs.lemmas.Result.{IfErr-weaker}
use Rattle.std.proofs.lemmas.List.Elements.{All-weaker}
use Rattle.std.proofs.lemmas.Grind.{common_steps}
use Rattle.model.specs.sites.Sites.{Constraint, is_present, Site, SiteTerm, layer, pick_of, some_part, sources_of, tuple_part, unfold_site, fields_from, field_terms}
use Rattle.model.specs.rules.Typed.{TypedPatterns, no_typed_pattern, typed_pattern_and}
use Rattle.model.specs.visits.Demands.{fields_matched, outputs_taken, Visit, with_sites, asking, counting, iterating, making, pattern_count, Opened, open_call, output_sites, outputs_opened, part_sites, fields_opened}
use Rattle.model.specs.sites.Limits.{most_outputs}
use Rattle.model.specs.lists.Tables.{Flags}
use Rattle.core_syntax.specs.declared.syntax.Limit.{Limit}
use Rattle.core_syntax.specs.declared.syntax.Limit.TheVariants as Limits
use Rattle.core_syntax.specs.declared.visit_fault.VisitFault.{VisitFault}
use Rattle.model.proofs.Members.{in_alone}
use Rattle.core_rule_sets.specs.SiteTables.{AreFirst, HasSources, IsTable}
use Rattle.core_builder.specs.VisitedSites.{built_sites, part_of, part_site, IsSiteOf, AreSitesOf, BuilderStandsAt, GoesTo, MakesSite, MakesAll, OpensTo, EndsBefore, EndsOpening, AnswersTo, answer_of, answered}
use Rattle.core_builder.specs.declared.builder_patterns.Parts.{Parts}
use Rattle.core_builder.specs.declared.builder_patterns.Parts.TheVariants as AllParts
use Rattle.core_builder.specs.declared.ruleset_builder.RuleSetBuilder.{RuleSetBuilder}
use Rattle.core_rule_sets.proofs.ClosingClasses.{sites_append}
use Rattle.core_rule_sets.proofs.FullTables.{first_with, want_weaker}
use Rattle.core_rule_sets.proofs.SitesAdded.{same_all, weaker_ok}

-- 1. visits that make sites
pub making_twice : (us ts : List SiteTerm) (v : Visit) → making ts (making us v) ≡ making (us ++ ts) v
making_twice us ts v = λ i. record v { demands = record v.demands { made = append_assoc v.demands.made us ts i } }

pub making_none : (v : Visit) → making [] v ≡ v
making_none v = λ i. record v { demands = record v.demands { made = append-nil v.demands.made i } }

-- 2. states that follow one another
pub goes_nowhere : (before : List SiteTerm) (b : RuleSetBuilder) (v : Visit) → BuilderStandsAt before b v → GoesTo before b b v
goes_nowhere before b v h = record { stands = h; kept = λ s l. refl; longer = omega arith }

pub goes_further : (before : List SiteTerm) (old now new : RuleSetBuilder) (v w : Visit) → GoesTo before old now v → GoesTo before now new w → GoesTo before old new w
goes_further before old now new v w g h = grind (arith, common_steps)

pub sites_stay : (before : List SiteTerm) (old new : RuleSetBuilder) (v : Visit) (us : List SiteTerm) (ns : List ℕ) → GoesTo before old new v → AreSitesOf old us ns → AreSitesOf new us ns
sites_stay before old new v us ns g h =
    let l = g.longer in
    record {
      within = All-weaker (λ n. n < length (built_sites old)) (λ n. n < length (built_sites new)) (λ n m. omega (arith, l, m)) ns h.within;
      numbers = same_all (unfold_site (built_sites new)) (unfold_site (built_sites old)) (length (built_sites old)) ns g.kept h.within ∙ h.numbers;
    }

pub site_stays : (before : List SiteTerm) (old new : RuleSetBuilder) (v : Visit) (u : SiteTerm) (n : ℕ) → GoesTo before old new v → IsSiteOf old u n → IsSiteOf new u n
site_stays before old new v u n g k = let l = k.within in let m = g.longer in record { within = omega (arith, l, m); number = g.kept n l ∙ k.number }

-- 3. sites made so far
pub none_made : (before : List SiteTerm) (b : RuleSetBuilder) (v : Visit) → BuilderStandsAt before b v → MakesAll before b b v [] []
none_made before b v h = grind (arith, common_steps, making_none v, goes_nowhere before b v h)

pub one_made : (before : List SiteTerm) (old now new : RuleSetBuilder) (v : Visit) (us : List SiteTerm) (ns ns' : List ℕ) (u t : SiteTerm) (n : ℕ) → MakesAll before old now v us ns
    → MakesSite before now new (making us v) u n → u ≡ t → ns' ≡ ns ++ n ∷ [] → MakesAll before old new v (us ++ t ∷ []) ns'
one_made before old now new v us ns ns' u t n m one is pushed =
    let stay = sites_stay before now new (making (u ∷ []) (making us v)) us ns one.goes m.sites in
    let all : AreSitesOf new (us ++ u ∷ []) (ns ++ n ∷ []) = grind (arith, common_steps, map-append (unfold_site (built_sites new)) ns (n ∷ [])) in
    let whole : MakesAll before old new v (us ++ u ∷ []) (ns ++ n ∷ []) = record {
      goes = subst (GoesTo before old new) (making_twice us (u ∷ []) v) (goes_further before old now new (making us v) (making (u ∷ []) (making us v)) m.goes one.goes);
      sites = all;
    } in
    subst (λ k. MakesAll before old new v (us ++ k ∷ []) ns') is (subst (λ k. MakesAll before old new v (us ++ u ∷ []) k) (sym pushed) whole)

-- 4. fields, one more of them
pub fields_more : (f : ℕ → SiteTerm) (i n : ℕ) → fields_from f i n ++ f (i + n) ∷ [] ≡ fields_from f i (suc n)
fields_more f i zero = let e : i + 0 ≡ i = omega arith in ap (λ k. f k ∷ []) e
fields_more f i (suc n) = grind (arith, common_steps, fields_more f (suc i) n)

pub field_more_of : (f : ℕ → SiteTerm) (i : ℕ) → fields_from f 0 i ++ f i ∷ [] ≡ fields_from f 0 (i + 1)
field_more_of f i = let z : i ≡ 0 + i = omega arith in ap (λ k. fields_from f 0 i ++ f k ∷ []) z ∙ fields_more f 0 i ∙ ap (fields_from f 0) (sym (add-one i))

fields_split : (f : ℕ → SiteTerm) (i k n : ℕ) → i < n → (rest : List SiteTerm) × (fields_from f k n ≡ fields_from f k i ++ f (k + i) ∷ rest)
fields_split f i k zero l = absurd (omega arith)
fields_split f zero k (suc n) l = let z : k + 0 ≡ k = omega arith in (fields_from f (suc k) n, ap (λ j. f j ∷ fields_from f (suc k) n) (sym z))
fields_split f (suc i) k (suc n) l = grind (arith, common_steps, fields_split f i (suc k) n)

-- 5. a builder that ended on its way to where a visit stands ended on its way to where a later one does
pub ends_later : (before : List SiteTerm) (b : RuleSetBuilder) (v w : Visit) (more : List SiteTerm) (e : VisitFault) → w.demands.made ≡ v.demands.made ++ more → EndsBefore before b v e → EndsBefore before b w e
ends_later before b v w more e made h =
    want_weaker (IsTable b.table × AreFirst (built_sites b) (with_sites before v.demands.made)) (IsTable b.table × AreFirst (built_sites b) (with_sites before w.demands.made)) e
    (λ p. grind (arith, common_steps, sites_append v.demands.made more before, first_with (built_sites b) (with_sites before v.demands.made) more p.1)) h

pub field_ends : (before : List SiteTerm) (b : RuleSetBuilder) (v : Visit) (f : ℕ → SiteTerm) (u : SiteTerm) (i n : ℕ) (e : VisitFault) → i < n → u ≡ f i
    → EndsBefore before b (making (u ∷ []) (making (fields_from f 0 i) v)) e → EndsBefore before b (making (fields_from f 0 n) v) e
field_ends before b v f u i n e l is h =
    let split = fields_split f i 0 n l in
    let z : 0 + i ≡ i = omega arith in
    let first = making (f i ∷ []) (making (fields_from f 0 i) v) in
    let whole : fields_from f 0 n ≡ (fields_from f 0 i ++ f i ∷ []) ++ split.0 =
    split.1 ∙ ap (λ k. fields_from f 0 i ++ f k ∷ split.0) z ∙ sym (append_assoc (fields_from f 0 i) (f i ∷ []) split.0) in
    let made : (making (fields_from f 0 n) v).demands.made ≡ first.demands.made ++ split.0 =
    ap (λ us. v.demands.made ++ us) whole ∙ sym (append_assoc v.demands.made (fields_from f 0 i ++ f i ∷ []) split.0)
    ∙ ap (λ us. us ++ split.0) (sym (append_assoc v.demands.made (fields_from f 0 i) (f i ∷ []))) in
    ends_later before b first (making (fields_from f 0 n) v) split.0 e made (subst (λ t. EndsBefore before b (making (t ∷ []) (making (fields_from f 0 i) v)) e) is h)

-- 6. parts of a site, one more of them
pub below_one : (b : RuleSetBuilder) (s : ℕ) → s < length (built_sites b) → (a : ℕ) → Contains (s ∷ []) a → a < length (built_sites b)
below_one b s l a c = subst (λ k. k < length (built_sites b)) (in_alone s a c) l

part_layer : (f : ℕ → SiteTerm) (parts : Parts) (s i : ℕ) → layer f (part_site parts s i) ≡ part_of parts (f s) i
part_layer f parts s i = grind (arith, common_steps)

part_source : (parts : Parts) (s i : ℕ) → sources_of (part_site parts s i) ≡ s ∷ []
part_source parts s i = grind (arith, common_steps)

module _ (before : List SiteTerm) (old now : RuleSetBuilder) (v : Visit) (parts : Parts) (s i place : ℕ) (ns : List ℕ) (binding : Site) (there : s < length (built_sites old)) (at : place ≡ i)
    (is : binding ≡ part_site parts s place) (m : MakesAll before old now v (fields_from (part_of parts (unfold_site (built_sites old) s)) 0 i) ns) where
  abbrev Part : ℕ → SiteTerm
  Part = part_of parts (unfold_site (built_sites old) s)

  pub part_below : HasSources (built_sites now) binding
  part_below a c = grind (arith, common_steps, below_one now s, part_source parts s place)

  part_is : layer (unfold_site (built_sites now)) binding ≡ Part i
  part_is = ap (layer (unfold_site (built_sites now))) is ∙ part_layer (unfold_site (built_sites now)) parts s place ∙ ap₂ (part_of parts) (m.goes.kept s there) at

  pub part_made : (new : RuleSetBuilder) (n : ℕ) (ns' : List ℕ) → MakesSite before now new (making (fields_from Part 0 i) v) (layer (unfold_site (built_sites now)) binding) n → ns' ≡ ns ++ n ∷ []
      → MakesAll before old new v (fields_from Part 0 (i + 1)) ns'
  part_made new n ns' one pushed =
      subst (λ us. MakesAll before old new v us ns') (field_more_of Part i) (one_made before old now new v (fields_from Part 0 i) ns ns' _ (Part i) n m one part_is pushed)

  pub part_ends : (new : RuleSetBuilder) (count : ℕ) (e : VisitFault) → i < count → EndsBefore before new (making (layer (unfold_site (built_sites now)) binding ∷ []) (making (fields_from Part 0 i) v)) e
      → EndsBefore before new (making (fields_from Part 0 count) v) e
  part_ends new count e l h = field_ends before new v Part _ i count e l part_is h

-- so many are counted and made, and then it is asked to have them
pub fields_open : (before : List SiteTerm) (old mid new : RuleSetBuilder) (v : Visit) (c : Constraint) (count s : ℕ) (ids : List ℕ) → s < length (built_sites old)
    → MakesAll before old mid (counting (fields_matched count) v) (field_terms c (unfold_site (built_sites old) s)) ids
    → ((w : Visit) → BuilderStandsAt before mid w → s < length (built_sites mid) → GoesTo before mid new (asking (unfold_site (built_sites mid) s) c w))
    → OpensTo before old new (fields_opened c count (unfold_site (built_sites old) s) v) ids
fields_open before old mid new v c count s ids l m ask =
    let u = unfold_site (built_sites old) s in
    let made = making (field_terms c u) (counting (fields_matched count) v) in
    let longer = m.goes.longer in
    let asked = subst (λ t. GoesTo before mid new (asking t c made)) (m.goes.kept s l) (ask made m.goes.stands (omega (arith, l, longer))) in
    record {
      goes = goes_further before old mid new made (asking u c made) m.goes asked;
      inputs = sites_stay before mid new (asking u c made) (field_terms c u) ids asked m.sites;
    }

-- 7. outputs of a call
-- none has no site, and one is the call's
module _ (before : List SiteTerm) (b : RuleSetBuilder) (v : Visit) (u : SiteTerm) where
  abbrev Counted : ℕ → Visit
  Counted n = counting (outputs_taken n) v

  pub no_outputs : (args : TypedPatterns) → pattern_count args ≡ 0 → BuilderStandsAt before b (Counted (pattern_count args)) → OpensTo before b b (outputs_opened u args v) []
  no_outputs no_typed_pattern e h = grind (arith, common_steps, making_none (Counted 0), goes_nowhere before b (Counted 0) h)
  no_outputs (typed_pattern_and q qs) e h = absurd (omega (arith, e))

  pub one_output : (args : TypedPatterns) (s : ℕ) → pattern_count args ≡ 1 → BuilderStandsAt before b (Counted (pattern_count args)) → IsSiteOf b u s → OpensTo before b b (outputs_opened u args v) (s ∷ [])
  one_output args s e h site = grind (arith, making_none, goes_nowhere)

-- several are parts
parts_are : (u : SiteTerm) (args : TypedPatterns) (n : ℕ) → pattern_count args ≡ n → 1 < n
    → (part_sites u args ≡ fields_from (tuple_part u) 0 n) × (output_sites u args ≡ fields_from (tuple_part u) 0 n)
parts_are u args n e l = grind arith

module _ (before : List SiteTerm) (old new : RuleSetBuilder) (v : Visit) (u : SiteTerm) (args : TypedPatterns) (n count : ℕ) (r : Result (Vec ℕ) VisitFault) (same : n ≡ count) (few : count ≤ most_outputs)
    (is : pattern_count args ≡ count) (several : 1 < n) where
  parts : (part_sites u args ≡ fields_from (tuple_part u) 0 n) × (output_sites u args ≡ fields_from (tuple_part u) 0 n)
  parts = parts_are u args n (is ∙ sym same) several

  abbrev pub Several : Visit
  Several = counting (outputs_taken (pattern_count args)) v

  pub parts_open : IfOk r (λ ids. MakesAll before old new Several (fields_from (tuple_part u) 0 n) ids.items) → IfOk r (λ ids. (count ≤ most_outputs) × OpensTo before old new (outputs_opened u args v) ids.items)
  parts_open = grind (arith, common_steps, weaker_ok)

  pub parts_end : IfErr r (EndsBefore before new (making (fields_from (tuple_part u) 0 n) v)) → IfErr r (EndsOpening before new (outputs_opened u args v).visit Limits.Outputs most_outputs count v)
  parts_end = grind (arith, common_steps)

-- 8. answers of a call
pub many_answered : (before : List SiteTerm) (old mid new : RuleSetBuilder) (v : Visit) (s n : ℕ) (u : SiteTerm) → s < length (built_sites old) → u ≡ unfold_site (built_sites old) s
    → MakesSite before old mid v (pick_of u) n
    → ((w : Visit) → BuilderStandsAt before mid w → s < length (built_sites mid) → GoesTo before mid new (iterating (unfold_site (built_sites mid) s) w))
    → GoesTo before old new (iterating u (making (pick_of u ∷ []) v)) × IsSiteOf new (pick_of u) n
many_answered before old mid new v s n u l is m next =
    let w = making (pick_of u ∷ []) v in
    let longer = m.goes.longer in
    let g = subst (λ t. GoesTo before mid new (iterating t w)) (m.goes.kept s l ∙ sym is) (next w m.goes.stands (omega (arith, l, longer))) in
    let more = g.longer in
    let k = m.site.within in
    (goes_further before old mid new w (iterating u w) m.goes g, record { within = omega (arith, more, k); number = g.kept n k ∙ m.site.number })

pub some_answered : (before : List SiteTerm) (old mid new : RuleSetBuilder) (v : Visit) (s n : ℕ) (u : SiteTerm) → s < length (built_sites old) → u ≡ unfold_site (built_sites old) s
    → MakesSite before old mid v (some_part u) n
    → ((w : Visit) → BuilderStandsAt before mid w → s < length (built_sites mid) → GoesTo before mid new (asking (unfold_site (built_sites mid) s) is_present w))
    → GoesTo before old new (asking u is_present (making (some_part u ∷ []) v)) × IsSiteOf new (some_part u) n
some_answered before old mid new v s n u l is m next =
    let w = making (some_part u ∷ []) v in
    let longer = m.goes.longer in
    let g = subst (λ t. GoesTo before mid new (asking t is_present w)) (m.goes.kept s l ∙ sym is) (next w m.goes.stands (omega (arith, l, longer))) in
    let more = g.longer in
    let k = m.site.within in
    (goes_further before old mid new w (asking u is_present w) m.goes g, record { within = omega (arith, more, k); number = g.kept n k ∙ m.site.number })

answered_makes : (multi infallible : Bool) (call : SiteTerm) (v : Visit) → (more : List SiteTerm) × ((answered multi infallible call v).demands.made ≡ v.demands.made ++ more)
answered_makes true i call v = (pick_of call ∷ [], refl)
answered_makes false true call v = ([], sym (append-nil v.demands.made))
answered_makes false false call v = (some_part call ∷ [], refl)

-- however many parts there are
pub opening_ends : (before : List SiteTerm) (b : RuleSetBuilder) (w v : Visit) (l : Limit) (most count : ℕ) (e : VisitFault) → EndsBefore before b w e → EndsBefore before b v e → EndsOpening before b w l most count v e
opening_ends before b w v l most count e h k = elim (cases_lt most count) [ inl m ↦ inr (m, inl k) | inr f ↦ inl (f, h) ]

-- 9. an extractor's call, with its answer and its outputs
call_opened : (multi infallible : Bool) (call : SiteTerm) (args : TypedPatterns) (v : Visit)
    → outputs_opened (answer_of multi infallible call) args (answered multi infallible call (making (call ∷ []) v))
    ≡ (if multi
    then outputs_opened (pick_of call) args (iterating call (making (call ∷ (pick_of call ∷ [])) v))
    else (if infallible
    then outputs_opened call args (making (call ∷ []) v)
    else outputs_opened (some_part call) args (asking call is_present (making (call ∷ (some_part call ∷ [])) v))))
call_opened multi i call args v = grind (arith, making_twice)

module _ (before : List SiteTerm) (v : Visit) (flags : Flags) (multi infallible : Bool) (is : flags.multi ≡ multi) (call : SiteTerm) where
  abbrev Call : Visit
  Call = making (call ∷ []) v

  abbrev Answered : Visit
  Answered = answered multi infallible call Call

  abbrev Wanted : TypedPatterns → Opened
  Wanted args = open_call flags infallible call args v

  -- it ended, however many outputs there are
  abbrev EndsCall : RuleSetBuilder → ℕ → TypedPatterns → VisitFault → Type 0
  EndsCall b count args e = EndsOpening before b (Wanted args).visit Limits.Outputs most_outputs count Answered e

  pub call_same : (qs : TypedPatterns) → outputs_opened (answer_of multi infallible call) qs Answered ≡ Wanted qs
  call_same qs = subst (λ m. outputs_opened (answer_of m infallible call) qs (answered m infallible call Call) ≡ open_call flags infallible call qs v) is (call_opened flags.multi infallible call qs v)

  opened_makes : (qs : TypedPatterns) → (more : List SiteTerm) × ((Wanted qs).visit.demands.made ≡ Call.demands.made ++ more)
  opened_makes qs = grind (arith, common_steps, answered_makes multi infallible call Call, parts, call_same qs, append_assoc Call.demands.made)

  pub open_call_ends : (args : TypedPatterns) (count : ℕ) (b : RuleSetBuilder) (e : VisitFault) → EndsBefore before b Call e → EndsCall b count args e
  open_call_ends args count b e h =
      let m = opened_makes args in
      let a = answered_makes multi infallible call Call in
      opening_ends before b (Wanted args).visit Answered Limits.Outputs most_outputs count e (ends_later before b Call (Wanted args).visit m.0 e m.1 h) (ends_later before b Call Answered a.0 e a.1 h)

  module _ (old mid : RuleSetBuilder) (s : ℕ) (m : MakesSite before old mid v call s) where
    pub answer_ends : (args : TypedPatterns) (count : ℕ) (b : RuleSetBuilder) (e : VisitFault)
        → ((w : Visit) → BuilderStandsAt before mid w → s < length (built_sites mid) → EndsBefore before b (answered multi infallible (unfold_site (built_sites mid) s) w) e) → EndsCall b count args e
    answer_ends args count b e full =
        let h = subst (λ u. EndsBefore before b (answered multi infallible u Call) e) m.site.number (full Call m.goes.stands m.site.within) in
        opening_ends before b (Wanted args).visit Answered Limits.Outputs most_outputs count e
        (ends_later before b Answered (Wanted args).visit (part_sites (answer_of multi infallible call) args) e (ap (λ (q : Opened). q.visit.demands.made) (sym (call_same args))) h) h

    -- the call is made and has answered, and its outputs follow
    module _ (now : RuleSetBuilder) (n : ℕ) (next : (w : Visit) → BuilderStandsAt before mid w → s < length (built_sites mid) → AnswersTo before mid now multi infallible (unfold_site (built_sites mid) s) w n)
        (new : RuleSetBuilder) (r : Result (Vec ℕ) VisitFault) (args : TypedPatterns) (count : ℕ) where
      answers : AnswersTo before mid now multi infallible call Call n
      answers = subst (λ u. AnswersTo before mid now multi infallible u Call n) m.site.number (next Call m.goes.stands m.site.within)

      pub call_opens : (BuilderStandsAt before now Answered → n < length (built_sites now) → IfOk r (λ ids. (count ≤ most_outputs) × OpensTo before now new (outputs_opened (unfold_site (built_sites now) n) args Answered) ids.items))
          → IfOk r (λ ids. (count ≤ most_outputs) × OpensTo before old new (Wanted args) ids.items)
      call_opens opened =
          weaker_ok (λ ids. (count ≤ most_outputs) × OpensTo before now new (outputs_opened (unfold_site (built_sites now) n) args Answered) ids.items)
          (λ ids. (count ≤ most_outputs) × OpensTo before old new (Wanted args) ids.items) r
          (λ ids o. (o.0, whole ids.items (subst (λ u. OpensTo before now new (outputs_opened u args Answered) ids.items) answers.site.number o.1)))
          (opened answers.goes.stands answers.site.within)
        where
          whole : (ids : List ℕ) → OpensTo before now new (outputs_opened (answer_of multi infallible call) args Answered) ids → OpensTo before old new (Wanted args) ids
          whole ids o =
              subst (λ q. OpensTo before old new q ids) (call_same args)
              (record {
                goes = goes_further before old now new Answered (outputs_opened (answer_of multi infallible call) args Answered).visit (goes_further before old mid now Call Answered m.goes answers.goes) o.goes;
                inputs = o.inputs;
              })

      pub outputs_end : (BuilderStandsAt before now Answered → n < length (built_sites now)
          → IfErr r (EndsOpening before new (outputs_opened (unfold_site (built_sites now) n) args Answered).visit Limits.Outputs most_outputs count Answered)) → IfErr r (EndsCall new count args)
      outputs_end full =
          IfErr-weaker r (EndsOpening before new (outputs_opened (unfold_site (built_sites now) n) args Answered).visit Limits.Outputs most_outputs count Answered) (EndsCall new count args)
          (λ e k. ends e (subst (λ u. EndsOpening before new (outputs_opened u args Answered).visit Limits.Outputs most_outputs count Answered e) answers.site.number k))
          (full answers.goes.stands answers.site.within)
        where
          ends : (e : VisitFault) → EndsOpening before new (outputs_opened (answer_of multi infallible call) args Answered).visit Limits.Outputs most_outputs count Answered e → EndsCall new count args e
          ends e k = grind (arith, common_steps, call_same args)

-- 10. an answer by its list
pub listed_both : (r : Result (Vec ℕ) VisitFault) (P : List ℕ → Type 0) (Q : VisitFault → Type 0) → IfOk r (λ ids. P ids.items) → IfErr r Q → MatchResult (listed r) P Q
listed_both r P Q p q = grind (arith, common_steps)
