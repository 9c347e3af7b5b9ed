-- What the search for recursion among templates says of a list of definitions.
use Rattle.std.proofs.Common.{◌≡◌, ℕ, zero, suc, ◌+◌, ◌<◌, Bool, true, false, cond, List, [], ◌∷◌, ◌⊎◌, length, map, slice_get, Option, None, Some, is_some, option_map, Contains, Vec, refl, sym, ap, subst, ◌∙◌, arith, inl, inr, ⊎_elim}
use Rattle.std.specs.List.{find, filter_map, flat_map}
use Rattle.std.specs.Str.{bytes_eq}
use Rattle.std.specs.declared.alloc.Global.{Global}
use Rattle.std.proofs.lemmas.Bool.{false≢true}
use Rattle.std.proofs.lemmas.List.Elements.{All-nil, All-contains}
use Rattle.std.proofs.lemmas.Option.{same_Some}
use Rattle.std.proofs.lemmas.Grind.{common_steps}
use Rattle.model.specs.lists.Syntax.{Position, Name, PatternTree, ExtractorTree, Definition}
use Rattle.model.specs.lists.Tables.{ConstructorEntry, ExtractorEntry, internal_extractor, declared_term, TermEntry, Flags}
use Rattle.model.specs.lists.TermTable.{argument_or, decl_flags, decl_names, rule_trees, template, extractor_trees, extractor_template, terms_in, term_names, term_named, made_by, IsDeclaredTerm, IsKnownTerm, NamesKnownTerms, Uses, Reaches, directly, through, IsAcyclic}
use Rattle.model.specs.claims.Environments.{TypesRead, AreReadable, IsLeftByRefusal}
use Rattle.model.proofs.Bytes.{same_bytes, same_self}
use Rattle.model.proofs.Members.{in_cases, in_head, in_tail, in_map, from_map}
use Rattle.core_syntax.specs.declared.syntax.Error.{Error}
use Rattle.core_syntax.specs.Patterns.{pattern_position}
use Rattle.core_types.specs.declared.ids.TermId.{TermId}
use Rattle.core_types.specs.declared.type_env.TypeEnv.{TypeEnv}
use Rattle.core_types.specs.Envs.{IsInterned}
use Rattle.core_types.specs.EnvViews.{environment_view}
use Rattle.core_terms.specs.declared.term_table.TermTable.{TermTable}
use Rattle.core_terms.specs.Reading.{term_of_name}
use Rattle.core_terms.specs.TermBreaches.{of_definitions, FirstStandsAt, by_recursion}
use Rattle.core_terms.specs.TermPositions.{taker_template, template_place}
use Rattle.core_terms.specs.TermViews.{term_views}
use Rattle.core_terms.specs.Stages.{constructor_after}
use Rattle.core_terms.specs.Signing.{NotesIfWrong, ReadsTerms}
use Rattle.core_terms.specs.Converting.{template_after}
use Rattle.core_terms.specs.Templating.{callees_of, AreCallees, AreRightExtractors, CallsAreOf, TemplatesRead}
use Rattle.core_terms.specs.Recursion.{all_end, AreWithin, by_one, by_more, Comes, EndsBelow, ExtractorsRead, HasEnd, HaveTemplates, NotesReturn, has_template, is_template}
use Rattle.core_syntax.proofs.NotedErrors.{both}
use Rattle.core_terms.proofs.Breaches.{begins_before, Breach}
use Rattle.core_terms.proofs.ErrorSteps.{step}
use Rattle.core_terms.proofs.ReadTerms.{entry_found, no_place, term_is}
use Rattle.core_terms.proofs.TemplateSteps.{one_name}
use Rattle.core_terms.proofs.TypesStaying.{left_interned}

abbrev Callees : Type 0
Callees = List (Vec TermId Global)

-- the first call of a way
first_call : (cs : Callees) {t v : ℕ} → Comes cs t v → (u : ℕ) × Contains (callees_of cs t) u × ((u ≡ v) ⊎ Comes cs u v)
first_call cs {t} {v} (by_one h) = (v, h, inl refl)
first_call cs {t} {v} (by_more c h) =
    let r = first_call cs c in
    ⊎_elim (λ e. (r.0, r.1, inr (by_one (subst (λ k. Contains (callees_of cs k) v) (sym e) h)))) (λ d. (r.0, r.1, inr (by_more d h))) r.2

-- where each way ends, no term comes back
no_return : (cs : Callees) {t : ℕ} → HasEnd cs t → Comes cs t t → ⊥
no_return cs {t} (all_end f) c =
    let r = first_call cs c in
    ⊎_elim (λ e. no_return cs (f r.0 r.1) (by_one (subst (λ k. Contains (callees_of cs k) r.0) (sym e) r.1)))
    (λ d. no_return cs (f r.0 r.1) (by_more d r.1)) r.2

pub within_all : (table : TermTable) (cs : Callees) → AreCallees table cs → AreWithin cs
within_all table cs c t u h = subst (λ n. u < n) (sym c.count) (c.within t u h)

-- a term that comes to itself names a term
pub back_calls : (cs : Callees) {t : ℕ} → Comes cs t t → (u : ℕ) × Contains (callees_of cs t) u
back_calls cs c = let r = first_call cs c in (r.0, r.1)

-- one more root
next_ends : (table : TermTable) (cs : Callees) (n : ℕ) → EndsBelow table cs n → (HaveTemplates table cs → HasEnd cs n) → EndsBelow table cs (n + 1)
next_ends table cs n below here h t l = grind (arith, common_steps)

pub next_root_ends : (table : TermTable) (cs : Callees) (n : ℕ) (first es es' : List Error) → NotesIfWrong es es' (HaveTemplates table cs → HasEnd cs n) (NotesReturn table cs es es') → NotesIfWrong first es (EndsBelow table cs n) (NotesReturn table cs first es) → NotesIfWrong first es' (EndsBelow table cs (n + 1)) (NotesReturn table cs first es')
next_root_ends table cs n first es es' h k = grind (arith, common_steps, next_ends table cs n, both first es es', begins_before)

-- what calls are, by names
module _ (e : TypesRead) (defs : List Definition) (cs : Callees) (r : AreRightExtractors e defs (extractor_trees defs)) (c : CallsAreOf e defs (extractor_trees defs) cs) where
  abbrev named : List ℕ → Option ℕ
  named = term_named e.known defs

  some_id : (o : Option ℕ) → is_some o ≡ true → (i : ℕ) × (o ≡ Some i)
  some_id o h = grind (arith, common_steps)

  declared_named : (n : Name) → IsDeclaredTerm defs n → (i : ℕ) × (named n.text ≡ Some i)
  declared_named n d = elim (named n.text) as (λ o. named n.text ≡ o → (i : ℕ) × (o ≡ Some i)) [
    | None ↦ λ h. absurd (false≢true (sym (ap is_some (no_place 0 n.text (decl_names defs) (filter_map (slice_get e.known.names) (flat_map made_by e.known.types)) h)) ∙ d))
    | Some i ↦ λ h. (i, refl)
  ] refl

  -- a term that another one uses is one that it calls
  uses_call : (t u : List ℕ) → Uses defs t u → (i j : ℕ) × (named t ≡ Some i) × (named u ≡ Some j) × Contains (callees_of cs i) j
  uses_call t u x =
      let n = from_map (λ (n : Name). n.text) (terms_in x.definition.template) u x.calls in
      let d = declared_named x.definition.term (All-contains (λ y. IsDeclaredTerm defs y.term) (extractor_trees defs) x.definition r.terms x.there) in
      let k = some_id (named n.0.text) (All-contains (IsKnownTerm e.known defs) (terms_in x.definition.template) n.0 (All-contains (NamesKnownTerms e.known defs) (extractor_trees defs) x.definition r.known x.there) n.1) in
      (d.0, k.0, ap named (sym x.of_term) ∙ d.1, ap named (sym n.2) ∙ k.1, c.there d.0 k.0 (record { definition = x.definition; there = x.there; of_term = d.1; name = n.0; calls = n.1; is_term = k.1 }))

  before_all : {t u v : ℕ} → Contains (callees_of cs t) u → Comes cs u v → Comes cs t v
  before_all h (by_one g) = by_more (by_one h) g
  before_all h (by_more d g) = by_more (before_all h d) g

  reaches_comes : {t u : List ℕ} → Reaches defs t u → (i j : ℕ) × (named t ≡ Some i) × (named u ≡ Some j) × Comes cs i j
  reaches_comes {t} {u} (directly x) = let k = uses_call t u x in (k.0, k.1, k.2, k.3, by_one k.4)
  reaches_comes {t} {u} (through {u = m} x y) = grind (arith, common_steps, reaches_comes y, uses_call t m x, same_Some, before_all)

  ends_acyclic : ((t : ℕ) → t < length cs → HasEnd cs t) → IsAcyclic defs
  ends_acyclic ends t y =
      let k = reaches_comes y in
      let same : k.0 ≡ k.1 = same_Some k.0 k.1 (sym k.2 ∙ k.3) in
      let back : Comes cs k.0 k.0 = subst (Comes cs k.0) (sym same) k.4 in
      let f = first_call cs back in
      no_return cs (ends k.0 (caller cs k.0 f.0 f.1)) back
    where
      caller : (ds : Callees) (t u : ℕ) → Contains (callees_of ds t) u → t < length ds
      caller [] t u h = absurd (none t h)
        where
          none : (t : ℕ) → Contains (callees_of [] t) u → ⊥
          none t h = All-contains (λ _. ⊥) [] u (All-nil (λ _. ⊥)) h
      caller (d ∷ ds) zero u h = omega arith
      caller (d ∷ ds) (suc t) u h = let l = caller ds t u h in omega (arith, l)

  goes_on : {t u v : List ℕ} → Reaches defs t u → Uses defs u v → Reaches defs t v
  goes_on (directly x) y = through x (directly y)
  goes_on (through x z) y = through x (goes_on z y)

  comes_reaches : {i j : ℕ} → Comes cs i j → (t u : List ℕ) × (named t ≡ Some i) × (named u ≡ Some j) × Reaches defs t u
  comes_reaches {i} {j} (by_one h) =
      let k = c.said i j h in
      (k.definition.term.text, k.name.text, k.of_term, k.is_term, directly (record { definition = k.definition; there = k.there; of_term = refl; calls = in_map (λ (n : Name). n.text) (terms_in k.definition.template) k.name k.calls }))
  comes_reaches {i} {j} (by_more {u = m} d h) =
      let l = comes_reaches d in
      let k = c.said m j h in
      let same : k.definition.term.text ≡ l.1 = one_name (term_names e.known defs) k.definition.term.text l.1 m k.of_term l.3 in
      (l.0, k.name.text, l.2, k.is_term, goes_on l.4 (record { definition = k.definition; there = k.there; of_term = same; calls = in_map (λ (n : Name). n.text) (terms_in k.definition.template) k.name k.calls }))

  -- a term that comes back is that of an extractor
  back_reaches : (t : ℕ) → Comes cs t t → (k : ExtractorTree) × Contains (extractor_trees defs) k × (named k.term.text ≡ Some t) × Reaches defs k.term.text k.term.text
  back_reaches t b =
      let l = comes_reaches b in
      let f = first_call cs b in
      let k = c.said t f.0 f.1 in
      let start : l.0 ≡ k.definition.term.text = one_name (term_names e.known defs) l.0 k.definition.term.text t l.2 k.of_term in
      let end : l.1 ≡ k.definition.term.text = one_name (term_names e.known defs) l.1 k.definition.term.text t l.3 k.of_term in
      (k.definition, k.there, k.of_term, subst (λ x. Reaches defs x k.definition.term.text) start (subst (Reaches defs l.0) end l.4))

-- a template stands where its pattern does
argument_position : (o : Option ℕ) (at : Position) (p : PatternTree) → pattern_position p ≡ at → pattern_position (argument_or o at p) ≡ at
argument_position o at p h = grind (arith, common_steps)

template_position : (args : List (List ℕ)) (p : PatternTree) → pattern_position (template args p) ≡ pattern_position p
template_position args p = grind (arith, argument_position)

-- the extractor whose pattern stands where the template of a term does
template_at : (es : List ExtractorTree) (x : List ℕ) (at : Position) → taker_template (template_after es x) ≡ Some at → (y : ExtractorTree) × Contains es y × (y.term.text ≡ x) × (pattern_position y.template ≡ at)
template_at [] x at h = absurd (cc)
template_at (z ∷ zs) x at h =
    elim (bytes_eq z.term.text x) as (λ b. bytes_eq z.term.text x ≡ b → taker_template (option_map (λ y. internal_extractor (extractor_template y)) (cond b (Some z) (find (λ y. bytes_eq y.term.text x) zs))) ≡ Some at → (y : ExtractorTree) × Contains (z ∷ zs) y × (y.term.text ≡ x) × (pattern_position y.template ≡ at)) [
      | true ↦ λ e g. (z, in_head z zs, same_bytes z.term.text x e, sym (template_position (map (λ n. n.text) z.args) z.template) ∙ same_Some (pattern_position (extractor_template z)) at g)
      | false ↦ λ e g. (let r = template_at zs x at g in (r.0, in_tail z r.0 zs r.1, r.2, r.3))
    ] refl h

-- each term that names one has a template, where all is right
found_some : (es : List ExtractorTree) (x : ExtractorTree) → Contains es x → is_template (template_after es x.term.text) ≡ true
found_some es x h = of_found (found_in es h)
  where
    found_in : (ys : List ExtractorTree) → Contains ys x → (y : ExtractorTree) × (find (λ y. bytes_eq y.term.text x.term.text) ys ≡ Some y)
    found_in [] h = absurd (All-contains (λ _. ⊥) [] x (All-nil (λ _. ⊥)) h)
    found_in (y ∷ ys) h = elim (bytes_eq y.term.text x.term.text) as (λ b. bytes_eq y.term.text x.term.text ≡ b → (z : ExtractorTree) × (cond b (Some y) (find (λ y. bytes_eq y.term.text x.term.text) ys) ≡ Some z)) [
      | true ↦ λ _. (y, refl)
      | false ↦ λ d. ⊎_elim (λ s. absurd (false≢true (sym d ∙ ap (λ (z : ExtractorTree). bytes_eq z.term.text x.term.text) s ∙ same_self x.term.text))) (λ m. found_in ys m) (in_cases y x ys h)
    ] refl

    of_found : (y : ExtractorTree) × (find (λ y. bytes_eq y.term.text x.term.text) es ≡ Some y) → is_template (template_after es x.term.text) ≡ true
    of_found p = ap (λ o. is_template (option_map (λ y. internal_extractor (extractor_template y)) o)) p.1

-- the entry of a term that has an extractor
extractor_entry : (e : TypesRead) → AreReadable e → (defs : List Definition) (cs : Callees) (env : TypeEnv) (table : TermTable) → IsLeftByRefusal e (environment_view env) → TemplatesRead e defs defs cs env table
    → (t : ℕ) (k : ExtractorTree) → Contains (extractor_trees defs) k → term_named e.known defs k.term.text ≡ Some t → (entry : TermEntry) → slice_get (term_views table.terms.items) t ≡ Some entry
    → (flags : Flags) × (made : Option ConstructorEntry) × (entry.kind ≡ declared_term flags made (template_after (extractor_trees defs) k.term.text))
extractor_entry e readable defs cs env table left s t k there of_term entry at =
    let interned : IsInterned env = left_interned e readable env left in
    let made : List ℕ → Option ConstructorEntry = constructor_after (rule_trees defs) in
    let taken : List ℕ → Option ExtractorEntry = template_after (extractor_trees defs) in
    let found : term_of_name env table k.term ≡ Some t = term_is e defs (decl_names defs) made taken env table interned s.stand k.term ∙ of_term in
    let declared : IsDeclaredTerm defs k.term = All-contains (λ y. IsDeclaredTerm defs y.term) (extractor_trees defs) k s.right.terms there in
    elim (entry_found e defs (decl_names defs) made taken env table interned s.stand k.term t entry found at) [
      | inl q ↦ (decl_flags q.0, made q.0.term.text, ap (λ (x : TermEntry). x.kind) q.4 ∙ ap (λ y. declared_term (decl_flags q.0) (made q.0.term.text) (taken y)) q.2)
      | inr q ↦ absurd (false≢true (sym (ap is_some q.0) ∙ declared))
    ]

have_templates : (e : TypesRead) → AreReadable e → (defs : List Definition) (cs : Callees) (env : TypeEnv) (table : TermTable) → IsLeftByRefusal e (environment_view env) → TemplatesRead e defs defs cs env table → HaveTemplates table cs
have_templates e readable defs cs env table left s t u entry h at =
    let k = s.calls.said t u h in
    let r = extractor_entry e readable defs cs env table left s t k.definition k.there k.of_term entry at in
    ap has_template r.2 ∙ found_some (extractor_trees defs) k.definition k.there

-- a term that comes back to itself is that of an extractor whose pattern stands there
return_broken : (e : TypesRead) → AreReadable e → (defs : List Definition) (cs : Callees) (env : TypeEnv) (table : TermTable) (es es' : List Error) → IsLeftByRefusal e (environment_view env) → TemplatesRead e defs defs cs env table → NotesReturn table cs es es' → Breach e.known of_definitions defs es es'
return_broken e readable defs cs env table es es' left s r =
    let b = back_reaches e defs cs s.right s.calls r.back.term r.back.comes in
    let k = extractor_entry e readable defs cs env table left s r.back.term b.0 b.1 b.2 r.back.entry r.back.entry_is in
    let y = template_at (extractor_trees defs) b.0.term.text r.at (sym (ap template_place k.2) ∙ r.back.place) in
    record {
      positions = pattern_position y.0.template ∷ [];
      breaks = by_recursion y.0 y.1 (subst (λ x. Reaches defs x x) (sym y.2) b.3);
      begins = subst (λ p. FirstStandsAt (p ∷ []) es es') (sym y.3) r.begins;
    }

-- the search after all extractors
pub searched : (e : TypesRead) → AreReadable e → (defs : List Definition) (cs : Callees) (env : TypeEnv) (table : TermTable) (es es' : List Error) (b : Bool)
    → NotesIfWrong es es' (EndsBelow table cs (length cs)) (NotesReturn table cs es es')
    → ReadsTerms e of_definitions defs (λ env table. (b ≡ true) × TemplatesRead e defs defs cs env table) env table es
    → ReadsTerms e of_definitions defs (ExtractorsRead e defs) env table es'
searched e readable defs cs env table es es' b a s =
    step e of_definitions defs (λ env table. (b ≡ true) × TemplatesRead e defs defs cs env table) (ExtractorsRead e defs) env env table table es es' (EndsBelow table cs (length cs)) (NotesReturn table cs es es') s.left s.within a
    (λ h ends. record {
      stand = h.1.stand;
      roots = h.1.roots;
      right = h.1.right;
      acyclic = ends_acyclic e defs cs h.1.right h.1.calls (ends (have_templates e readable defs cs env table s.left h.1));
      converters = h.1.converters;
    })
    (λ h r. return_broken e readable defs cs env table es es' s.left h.1 r) s

pub no_some : {X : Type 0} (o : Option X) → ((x : X) → o ≡ Some x → ⊥) → is_some o ≡ true → ⊥
no_some o h e = grind (arith, common_steps)
