-- From one group of the reading of terms to the next one, and what stands at the end.
use Rattle.std.proofs.Common.{◌≡◌, ◌==◌, ℕ, suc, ◌+◌, ◌<◌, true, false, List, [], ◌∷◌, ◌++◌, length, map, slice_get, Option, None, Some, option_map, Contains, refl, sym, ap, subst, ◌∙◌, arith, ⊎_elim}
use Rattle.std.specs.List.{cons_option, enumerate_from, filter_map, find, flat_map}
use Rattle.std.specs.Str.{bytes_eq}
use Rattle.std.proofs.lemmas.List.{append-nil}
use Rattle.std.proofs.lemmas.List.Concat.{flat_map-append}
use Rattle.std.proofs.lemmas.List.Elements.{All-nil, Contains-append_cases, recursion_from_All}
use Rattle.std.proofs.lemmas.Grind.{common_steps}
use Rattle.laws_typing.proofs.LooksByNumber.{nothing_then, numbered_from}
use Rattle.model.specs.lists.Syntax.{DeclTree, ExtractorTree, Definition}
use Rattle.model.specs.lists.Names.{number, has_name, with_names, IsDistinct}
use Rattle.model.specs.rules.Meaning.{look}
use Rattle.model.specs.rules.Outcome.{then_option}
use Rattle.model.specs.lists.Tables.{TypeEntry, TermEntry}
use Rattle.model.specs.lists.KnownTypes.{entry_numbers, IsWellFormed}
use Rattle.model.specs.lists.TermTable.{decl_trees, decl_names, extractor_trees, internal_extractors, function_of, made_by, term_names, term_names_met, terms_made, term_table, converters, IsValidTerms}
use Rattle.model.specs.claims.Environments.{TypesRead, AreReadable, AreTermsOf, IsLeftByRefusal, IsReadAs, terms_by_name, with_read_names}
use Rattle.model.specs.claims.Refusals.{RefusesTerms}
use Rattle.model.proofs.Members.{in_cases, nothing_in, get_from_member}
use Rattle.model.proofs.Names.{has_at, has_met, has_left, has_kept}
use Rattle.laws_typing.proofs.TermLaws.{all_made_only, terms_have_names_lem, terms_stand_at_ids_lem}
use Rattle.core_syntax.specs.ErrorViews.{error_views}
use Rattle.core_syntax.proofs.NotedErrors.{forms_of, some_views}
use Rattle.core_syntax.specs.declared.syntax.Error.{Error}
use Rattle.core_types.specs.declared.type_env.TypeEnv.{TypeEnv}
use Rattle.core_types.specs.Envs.{IsInterned}
use Rattle.core_types.specs.EnvViews.{environment_view}
use Rattle.core_types.specs.TypePositions.{entry_positions}
use Rattle.core_types.specs.TypeViews.{type_views}
use Rattle.core_terms.specs.declared.term_table.TermTable.{TermTable}
use Rattle.core_terms.specs.TermBreaches.{TermGroup, of_signatures, of_definitions, of_converters, of_externs, by_made, FirstBreaksTerms, FirstBreaksGroup}
use Rattle.core_terms.specs.TermErrors.{AreRightSignatures, AreRightDefinitions, AreRightConverters}
use Rattle.core_terms.specs.TermTables.{term_at}
use Rattle.core_terms.specs.Reading.{IsWithin}
use Rattle.core_terms.specs.Stages.{HasNoConverter, place_among}
use Rattle.core_terms.specs.Signing.{with_ids, declared_alone, texts_at, AddsAllMade, Declaring, GrowsBy, NumbersAreMet, ReadsTerms, TakesNames}
use Rattle.core_terms.specs.ReadTerms.{RootsRead}
use Rattle.core_terms.specs.Converting.{type_by_id, ConvertersRead, template_after}
use Rattle.core_terms.specs.ExternStages.{external_after, ExternsRead}
use Rattle.core_terms.specs.Recursion.{ExtractorsRead}
use Rattle.core_terms.specs.ShownTables.{shown_by}
use Rattle.core_terms.proofs.Breaches.{Breach}
use Rattle.core_terms.proofs.Broken.{breaks_invalid}
use Rattle.core_terms.proofs.Making.{met_left, met_right, texts_behind}
use Rattle.core_terms.proofs.ErrorSteps.{reads_next, step}
use Rattle.core_terms.proofs.TypesStaying.{left_distinct, left_interned}

-- before the first definition
pub first_declared : (e : TypesRead) (defs : List Definition) (env : TypeEnv) (table : TermTable) (es : List Error) → IsReadAs (environment_view env) e → table.terms.items ≡ [] → ((k : ℕ) → term_at table k ≡ None) → HasNoConverter table → es ≡ [] → ReadsTerms e of_signatures defs (Declaring e defs []) env table es
first_declared e defs env table es r terms ids converters none = grind (arith, common_steps, append-nil e.known.names, nothing_then)

-- the names that make terms were met
made_met : (e : TypesRead) → IsWellFormed e.known → NumbersAreMet e (flat_map made_by e.known.types)
made_met e w = all_made_only (λ n. n < length e.known.names) e.known.types (recursion_from_All (λ n. n < length e.known.names) (flat_map entry_numbers e.known.types) w.numbers_in_range)

-- a type whose terms have a name that is taken
made_broken : (e : TypesRead) → AreReadable e → (defs : List Definition) (env : TypeEnv) (old : TermTable) (es es' : List Error) → IsInterned env → Declaring e defs defs env old → TakesNames e.known.types old es es' → Breach e.known of_signatures defs es es'
made_broken e readable defs env old es es' i h t =
    let front : List ℕ = flat_map made_by t.before in
    let numbers = ap (flat_map made_by) t.whole ∙ flat_map-append made_by t.before (t.entry ∷ t.after) in
    let met : NumbersAreMet e (front ++ (made_by t.entry ++ flat_map made_by t.after)) = subst (NumbersAreMet e) numbers (made_met e readable.well_formed) in
    let met_here : NumbersAreMet e (made_by t.entry) = met_left e (made_by t.entry) (flat_map made_by t.after) (met_right e front (made_by t.entry ++ flat_map made_by t.after) met) in
    let names : List (List ℕ) = decl_names defs in
    let fs : List (ℕ → TermEntry) = map (declared_alone e defs) (decl_trees defs) in
    let grown = t.grows e names names fs env i (met_left e front (made_by t.entry ++ flat_map made_by t.after) met) h.has in
    let b = t.taken e names (names ++ texts_at e front) (fs ++ flat_map terms_made t.before) env i met_here grown in
    record {
      positions = entry_positions t.entry;
      breaks = by_made t.before t.after t.entry t.whole (record {
        earlier = b.earlier;
        number = b.number;
        later = b.later;
        makes = b.is;
        name = b.name;
        name_is = b.name_is;
        taken = subst (λ l. Contains l b.name) (texts_behind e names front b.earlier) b.taken;
      });
      begins = t.begins;
    }

-- after the terms that types make
pub made_after : (e : TypesRead) → AreReadable e → (defs : List Definition) (env : TypeEnv) (table table' : TermTable) (es es' : List Error) → IsWithin table'
    → AddsAllMade (type_views env.types.items) table es table' es'
    → ReadsTerms e of_signatures defs (Declaring e defs defs) env table es → ReadsTerms e of_signatures defs (RootsRead e defs []) env table' es'
made_after e readable defs env table table' es es' w a s =
    let ts : List TypeEntry = e.known.types in
    let b : AddsAllMade ts table es table' es' = subst (λ l. AddsAllMade l table es table' es') s.left.types.types a in
    let interned : IsInterned env = left_interned e readable env s.left in
    step e of_signatures defs (Declaring e defs defs) (RootsRead e defs []) env env table table' es es' (GrowsBy (flat_map made_by ts) (flat_map terms_made ts) table table') (TakesNames ts table es es') s.left w b
    (λ h g.
    let grown = g e (decl_names defs) (decl_names defs) (map (declared_alone e defs) (decl_trees defs)) env interned (made_met e readable.well_formed) h.has in
    record {
      stand = record { names = grown.names; finds = grown.finds; distinct = grown.distinct; right = h.right; terms = grown.terms };
      roots = All-nil _;
      converters = grown.converters;
    })
    (λ h t. made_broken e readable defs env table es es' interned h t) s

not_first : (es : List Error) (first : Error) (rest : List Error) → es ≡ [] → es ≡ first ∷ rest → ⊥
not_first es first rest none is = let both : [] ≡ first ∷ rest = sym none ∙ is in absurd (cc)

-- what is right where nothing was noted
pub right_now : (e : TypesRead) (group : TermGroup) (defs : List Definition) (A : TypeEnv → TermTable → Type 0) (env : TypeEnv) (table : TermTable) (es : List Error) → ReadsTerms e group defs A env table es → es ≡ [] → A env table
right_now e group defs A env table es s none = ⊎_elim (λ r. r.1) (λ f. absurd (not_first es f.first f.rest none f.is)) s.so_far

same_entries : (f g : DeclTree → ℕ → TermEntry) (fs : List (ℕ → TermEntry)) → ((d : DeclTree) (i : ℕ) → f d i ≡ g d i) → (n : ℕ) (ds : List DeclTree) → with_ids n (map f ds ++ fs) ≡ with_ids n (map g ds ++ fs)
same_entries f g fs h n [] = refl
same_entries f g fs h n (d ∷ ds) = ap (λ x. x ∷ with_ids (n + 1) (map f ds ++ fs)) (h d n) ∙ ap (λ l. g d n ∷ l) (same_entries f g fs h (n + 1) ds)

no_template : (es : List ExtractorTree) (x : List ℕ) → has_name (map (λ e. e.term.text) es) x ≡ false → find (λ e. bytes_eq e.term.text x) es ≡ None
no_template [] x h = refl
no_template (t ∷ ts) x h = grind (arith, common_steps, no_template ts x)

template_or : (e : TypesRead) (defs : List Definition) (x : List ℕ) → template_after (extractor_trees defs) x ≡ external_after e defs [] x
template_or e defs x = grind (arith, common_steps, no_template (extractor_trees defs) x)

-- before the converters
pub first_converter : (e : TypesRead) (defs : List Definition) (env : TypeEnv) (table : TermTable) (es : List Error) → es ≡ [] → ReadsTerms e of_definitions defs (ExtractorsRead e defs) env table es → ReadsTerms e of_converters defs (ConvertersRead e defs []) env table es
first_converter e defs env table es none s =
    reads_next e of_definitions of_converters defs (ExtractorsRead e defs) (ConvertersRead e defs []) env table es none (λ h. record {
      stand = h.stand;
      known = All-nil _;
      distinct = λ j k x p q. absurd (cc);
      conversions = λ i o. ap (option_map (λ t. t.0)) (h.converters (type_by_id i, type_by_id o));
    }) s

-- before the external functions
pub first_extern : (e : TypesRead) (defs : List Definition) (env : TypeEnv) (table : TermTable) (es : List Error) → IsDistinct (internal_extractors defs) → es ≡ [] → ReadsTerms e of_converters defs (ConvertersRead e defs defs) env table es → ReadsTerms e of_externs defs (ExternsRead e defs []) env table es
first_extern e defs env table es once none s =
    reads_next e of_converters of_externs defs (ConvertersRead e defs defs) (ExternsRead e defs []) env table es none (λ h. record {
      stand = record {
        names = h.stand.names ∙ ap (with_names e.known.names) (sym (append-nil (decl_names defs)));
        finds = h.stand.finds;
        distinct = h.stand.distinct;
        right = h.stand.right;
        terms = grind (arith, common_steps, same_entries, template_or e defs);
      };
      constructors = record { terms = All-nil _; without_rules = All-nil _; distinct = λ j k x p q. absurd (cc) };
      externals = record { terms = All-nil _; distinct = subst IsDistinct (sym (append-nil (internal_extractors defs))) once };
      conversions = h.conversions;
    }) s

-- terms by name, where each stands at its id
by_name_from : (n : ℕ) (ts : List TermEntry) (ns names : List (List ℕ)) → map (λ e. e.name) ts ≡ map (number names) ns → ((i : ℕ) (t : TermEntry) → slice_get ts i ≡ Some t → t.id ≡ n + i) → terms_by_name ts ≡ map (λ p. (number names p.1, p.0)) (enumerate_from n ns)
by_name_from n [] [] names h ids = refl
by_name_from n (t ∷ ts) (x ∷ ns) names h ids =
    let head : t.name ≡ number names x = cc in
    let tail : map (λ (e : TermEntry). e.name) ts ≡ map (number names) ns = cc in
    let zero_is : n + 0 ≡ n = omega arith in
    let id : t.id ≡ n = ids 0 t refl ∙ zero_is in
    let next : (i : ℕ) → n + suc i ≡ (n + 1) + i = λ i. omega arith in
    ap (λ k. (k, t.id) ∷ terms_by_name ts) head
    ∙ ap (λ k. (number names x, k) ∷ terms_by_name ts) id
    ∙ ap (λ l. (number names x, n) ∷ l) (by_name_from (n + 1) ts ns names tail (λ i u g. ids (suc i) u g ∙ next i))
by_name_from n _ _ names h ids = absurd (cc)

one_name_met : (ns rest : List (List ℕ)) (m : ℕ) (x : List ℕ) (o : Option (List ℕ)) → slice_get ns m ≡ o → (Contains rest x → has_name ns x ≡ true) → Contains (cons_option o rest) x → has_name ns x ≡ true
one_name_met ns rest m x o e all c = grind (arith, common_steps, has_at ns m x, in_cases)

made_names_met : (ns : List (List ℕ)) (ms : List ℕ) (x : List ℕ) → Contains (filter_map (slice_get ns) ms) x → has_name ns x ≡ true
made_names_met ns [] x c = absurd (nothing_in x c)
made_names_met ns (m ∷ ms) x c = one_name_met ns (filter_map (slice_get ns) ms) m x (slice_get ns m) refl (made_names_met ns ms x) c

-- nothing is wrong: these are the terms of the list
pub all_read : (e : TypesRead) → AreReadable e → (defs : List Definition) (env old : TypeEnv) (table before : TermTable) → IsLeftByRefusal e (environment_view env) → ExtractorsRead e defs old before → (cr : (mid : TermTable) × ConvertersRead e defs defs old mid) → ExternsRead e defs defs env table
    → IsValidTerms e.known defs × AreTermsOf e defs (shown_by table) (environment_view env)
all_read e readable defs env old table before left x cr s = (valid, record { valid = valid; rows = record { table = s.stand.terms; look_ups = look_ups; conversions = s.conversions }; types = types })
  where
    valid : IsValidTerms e.known defs
    valid = grind (arith, common_steps)

    met : (y : List ℕ) → Contains (term_names e.known defs) y → has_name (term_names_met e.known defs) y ≡ true
    met y c =
        ⊎_elim (λ d. has_met e.known.names (decl_names defs ++ flat_map function_of defs) y (has_left (decl_names defs) (flat_map function_of defs) y (has_in (decl_names defs) y d)))
        (λ m. has_kept e.known.names (decl_names defs ++ flat_map function_of defs) y (made_names_met e.known.names (flat_map made_by e.known.types) y m))
        (Contains-append_cases (decl_names defs) (filter_map (slice_get e.known.names) (flat_map made_by e.known.types)) y c)
      where
        has_in : (ns : List (List ℕ)) (y : List ℕ) → Contains ns y → has_name ns y ≡ true
        has_in ns y c = let g = get_from_member ns y c in has_at ns g.0 y g.1

    look_ups : (k : ℕ) → term_at table k ≡ look (λ n. n == k) (terms_by_name (term_table e.known defs))
    look_ups k =
        s.stand.finds.ids k ∙ ap (λ ns. then_option (slice_get ns k) (place_among (term_names e.known defs))) s.stand.names
        ∙ sym (numbered_from (term_names_met e.known defs) 0 (term_names e.known defs) (subst IsDistinct s.stand.names (left_distinct e readable env left)) met k)
        ∙ ap (look (λ n. n == k)) (sym (by_name_from 0 (term_table e.known defs) (term_names e.known defs) (term_names_met e.known defs) (terms_have_names_lem.0 e.known defs readable.well_formed) (λ i t h. let z : i ≡ 0 + i = omega arith in terms_stand_at_ids_lem e.known defs i t h ∙ z)))

    types : IsReadAs (environment_view env) (with_read_names e (term_names_met e.known defs))
    types = subst (λ ns. IsReadAs (environment_view env) (with_read_names e ns)) (sym left.types.names ∙ s.stand.names) left.types

-- before the rules
pub first_definition : (e : TypesRead) (defs : List Definition) (env : TypeEnv) (table : TermTable) (es : List Error) → es ≡ [] → ReadsTerms e of_signatures defs (RootsRead e defs []) env table es → ReadsTerms e of_definitions defs (RootsRead e defs []) env table es
first_definition e defs env table es none s = reads_next e of_signatures of_definitions defs (RootsRead e defs []) (RootsRead e defs []) env table es none (λ h. h) s

-- errors after one of the groups: the first one stands where a condition of the group is broken
module _ (e : TypesRead) (group : TermGroup) (defs : List Definition) (A : TypeEnv → TermTable → Type 0) (env : TypeEnv) (table : TermTable) (es : List Error) (s : ReadsTerms e group defs A env table es) (some : length es ≡ 0 → ⊥) where
  pub first_of_group : FirstBreaksGroup e.known group defs es
  first_of_group = ⊎_elim (λ r. absurd (some (ap length r.0))) (λ f. f) s.so_far

  pub first_broken : FirstBreaksTerms e.known defs es
  first_broken = grind (arith, common_steps, first_of_group)

  -- so there are some, and the definitions aren't valid
  pub not_read : (es ≡ [] → ⊥) × (IsValidTerms e.known defs → ⊥)
  not_read = (λ none. some (ap length none), breaks_invalid e.known defs (first_broken).positions (first_broken).breaks)

  -- and are refused
  pub why_refused : RefusesTerms e defs (error_views es)
  why_refused = record { some_error = some_views es (not_read).0; forms = forms_of es s.ill_typed; not_valid = (not_read).1 }

-- what is right after the first groups
module _ (e : TypesRead) (defs : List Definition) (env : TypeEnv) (table : TermTable) where
  pub signatures_right : RootsRead e defs [] env table → AreRightSignatures e defs
  signatures_right r = record { distinct = r.stand.distinct; declarations = r.stand.right }

  pub definitions_right : ExtractorsRead e defs env table → AreRightDefinitions e defs
  definitions_right x = record { roots = x.roots; extractors = x.right; acyclic = x.acyclic }

  pub converters_right : ConvertersRead e defs defs env table → AreRightConverters e defs
  converters_right c = record { known = c.known; distinct = c.distinct }
