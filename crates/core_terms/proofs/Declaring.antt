-- Reading declarations by types that are handed in, one definition after another.
use Rattle.std.proofs.Common.{◌≡◌, ◌&&◌, ℕ, ◌+◌, ◌<◌, Bool, true, false, not, cond, nat_eq, Contains, List, [], ◌∷◌, ◌++◌, ◌⊎◌, length, take, drop, get_or, map, None, Some, is_some, All, IsTrue, refl, sym, ap, subst, ◌∙◌, arith, inl, inr, ⊎_elim}
use Rattle.std.specs.List.{enumerate_from, flat_map}
use Rattle.std.proofs.lemmas.Bool.{false≢true}
use Rattle.std.proofs.lemmas.List.{append_assoc, append-nil, at_drop_more, take_more, take-append-drop, length_push, length-map, map-append}
use Rattle.std.proofs.lemmas.List.Concat.{flat_map-append}
use Rattle.std.proofs.lemmas.List.FromFn.{length-enumerate_from}
use Rattle.std.proofs.lemmas.List.Elements.{All-nil, All-push, All-contains, All-weaker}
use Rattle.std.proofs.lemmas.Grind.{common_steps}
use Rattle.model.specs.lists.Syntax.{Name, DeclTree, Definition, type_definition, declaration, extractor_definition, converter_definition, rule_definition, extern_definition, other_definition}
use Rattle.model.specs.lists.Names.{number, with_name, with_names}
use Rattle.model.specs.lists.Tables.{TermEntry}
use Rattle.model.specs.lists.TypeTable.{place_from, IsKnownType}
use Rattle.model.specs.lists.KnownTypes.{KnownTypes, known_type}
use Rattle.model.specs.lists.TermTable.{decl_of, decl_trees, decl_names, function_of, term_names_met, HasKnownArguments, HasKnownResult, IsNotBothMultiAndPartial}
use Rattle.model.specs.claims.Environments.{TypesRead, AreReadable, IsLeftByRefusal}
use Rattle.model.proofs.FirstPlaces.{distinct_push, place_there}
use Rattle.model.proofs.Members.{member_from_get}
use Rattle.model.proofs.Names.{number_stays, with_names_append}
use Rattle.model.proofs.Positions.{get_middle}
use Rattle.core_syntax.specs.declared.syntax.Def.{Def}
use Rattle.core_syntax.specs.declared.syntax.Error.{Error}
use Rattle.core_syntax.specs.NotedErrors.{MayNoteMore}
use Rattle.core_syntax.specs.Positions.{declaration_positions, definition_positions}
use Rattle.core_syntax.specs.SyntaxViews.{definition_view, definition_views}
use Rattle.core_syntax.proofs.NotedErrors.{may_both}
use Rattle.core_types.specs.declared.type_env.TypeEnv.{TypeEnv}
use Rattle.core_types.specs.Envs.{names_of, symbol_of, type_of_name, IsInterned}
use Rattle.core_types.specs.EnvViews.{environment_view}
use Rattle.core_types.specs.VariantReading.{ReportsIf}
use Rattle.core_terms.specs.declared.term_table.TermTable.{TermTable}
use Rattle.core_terms.specs.TermBreaches.{of_signatures, FirstStandsAt, BreaksDeclaration, name_taken, both_marks, unknown_argument, unknown_result, by_declaration}
use Rattle.core_terms.specs.TermTables.{term_at}
use Rattle.core_terms.specs.TermViews.{term_view, term_views}
use Rattle.core_terms.specs.Reading.{IsWithin, Interns, MayIntern, HaveTypes, HasUnknown, IsKnownInEnv, AddsTerm, IsTakenByTerm, IsFreeOrReported, AddsOrReports, signature_entry}
use Rattle.core_terms.specs.Stages.{place_among}
use Rattle.core_terms.specs.Signing.{ReadsTerms, with_ids, declared_alone, HoldsTerms, AreRightDeclarations, Declaring, Declares, IsWrongDeclaration, ReadsDeclaration, ReadsIfDeclared, NotesIfWrong}
use Rattle.core_terms.proofs.Finding.{at_number, finds_next}
use Rattle.core_terms.proofs.TypesStaying.{left_more, type_is, may_intern}
use Rattle.core_terms.proofs.Breaches.{begins_both}
use Rattle.core_terms.proofs.ErrorSteps.{both_note, if_noted, may_note, notes_as, step}

-- one more term, with the next id
pub one_more : (i n : ℕ) (fs : List (ℕ → TermEntry)) (f : ℕ → TermEntry) → i + length fs ≡ n → with_ids i (fs ++ f ∷ []) ≡ with_ids i fs ++ f n ∷ []
one_more i n [] f e = let same : i ≡ n = omega arith in ap (λ m. f m ∷ []) same
one_more i n (g ∷ fs) f e = ap (λ l. g i ∷ l) (one_more (i + 1) n fs f (omega arith))

-- a fact of each element, of one of them
pub at_middle : {X : Type 0} (P : X → Type 0) (xs : List X) (x : X) (ys zs : List X) → zs ≡ xs ++ x ∷ ys → All P zs → P x
at_middle P xs x ys zs e a = All-contains P zs x a (subst (λ l. Contains l x) (sym e) (member_from_get (xs ++ x ∷ ys) (length xs) x (get_middle xs x ys)))

-- a text that has a place is there
pub place_member : (ts : List (List ℕ)) (x : List ℕ) (k : ℕ) → place_from 0 x ts ≡ Some k → Contains ts x
place_member ts x k h = let t = place_there 0 ts x k h in member_from_get ts t.0 x t.2

-- a term is added by a name that was none's
module _ (e : TypesRead) (met named : List (List ℕ)) (fs : List (ℕ → TermEntry)) (env : TypeEnv) (table : TermTable) (s : HoldsTerms e met named fs env table) (x : List ℕ) (f : ℕ → TermEntry) (met' : List (List ℕ)) (new : TypeEnv) (table' : TermTable) where
  taken_place : term_at table (number (names_of env) x) ≡ place_among named x
  taken_place = at_number (names_of env) (term_at table) (place_among named) s.finds x

  size : length table.terms.items ≡ length named
  size = sym (length-map table.terms.items term_view) ∙ ap length s.terms ∙ length-map (enumerate_from 0 fs) (λ p. p.1 p.0) ∙ length-enumerate_from 0 fs ∙ s.count

  pub adds_term : names_of new ≡ with_names e.known.names met' → names_of new ≡ with_name (names_of env) x → IsInterned new → term_at table (number (names_of env) x) ≡ None
      → ((k : ℕ) → term_at table' k ≡ cond (nat_eq (number (names_of env) x) k) (Some (length table.terms.items)) (term_at table k))
      → term_views table'.terms.items ≡ term_views table.terms.items ++ f (length table.terms.items) ∷ []
      → table'.converters ≡ table.converters
      → HoldsTerms e met' (named ++ x ∷ []) (fs ++ f ∷ []) new table'
  adds_term names more inverse free ids terms converters =
      let place : place_among named x ≡ None = sym taken_place ∙ free in
      record {
        names = names;
        finds = finds_next (names_of env) (term_at table) named s.finds x (names_of new) more (symbol_of new) inverse place (term_at table') (λ k. rw (← size) (ids k));
        distinct = distinct_push named x s.distinct place;
        terms = terms ∙ ap (λ l. l ++ f (length table.terms.items) ∷ []) s.terms ∙ sym (one_more 0 (length table.terms.items) fs f (omega (arith, size, s.count)));
        count = length_push fs f ∙ ap (λ n. n + 1) s.count ∙ sym (length_push named x);
        converters = rw converters s.converters;
      }

-- what a list says with one more definition
decls_more : (read : List Definition) (d : DeclTree) → decl_trees (read ++ declaration d ∷ []) ≡ decl_trees read ++ d ∷ []
decls_more read d = flat_map-append decl_of read (declaration d ∷ [])

names_more : (read : List Definition) (d : DeclTree) → decl_names (read ++ declaration d ∷ []) ≡ decl_names read ++ d.term.text ∷ []
names_more read d = ap (map (λ d. d.term.text)) (decls_more read d) ∙ map-append (λ d. d.term.text) (decl_trees read) (d ∷ [])

pub with_names_push : (ns xs : List (List ℕ)) (x : List ℕ) → with_name (with_names ns xs) x ≡ with_names ns (xs ++ x ∷ [])
with_names_push ns xs x = sym (with_names_append ns xs (x ∷ []))

module _ (e : TypesRead) (r : AreReadable e) (env : TypeEnv) (left : IsLeftByRefusal e (environment_view env)) where
  abbrev k : KnownTypes
  k = e.known

  was_known : (n : Name) → IsKnownType k.type_names n → IsKnownInEnv env n
  was_known n h = subst (λ o. IsTrue (is_some o)) (sym (type_is e r env left n.text)) h

  known_of : (n : Name) (ty : ℕ) → Some ty ≡ type_of_name env n.text → (ty ≡ known_type k n) × IsKnownType k.type_names n
  known_of n ty h = grind (arith, common_steps, type_is e r env left n.text)

  all_known_of : (ns : List Name) (tys : List ℕ) → HaveTypes env ns tys → (tys ≡ map (known_type k) ns) × All (IsKnownType k.type_names) ns
  all_known_of [] [] h = (refl, All-nil (IsKnownType k.type_names))
  all_known_of [] (t ∷ ts) h = absurd (cc)
  all_known_of (n ∷ ns) [] h = absurd (cc)
  all_known_of (n ∷ ns) (t ∷ ts) h = grind (arith, common_steps, all_known_of ns ts, known_of n t)

  unknown_wrong : (before : List Definition) (d : DeclTree) → HasUnknown d env → BreaksDeclaration k before d
  unknown_wrong before d (inl a) = unknown_argument (λ args. a (All-weaker (IsKnownType k.type_names) (IsKnownInEnv env) was_known d.arg_tys args))
  unknown_wrong before d (inr none) = unknown_result (λ result. false≢true (subst (λ o. is_some o ≡ true) none (was_known d.ret_ty result)))

module _ (e : TypesRead) (r : AreReadable e) (defs read rest : List Definition) (d : DeclTree) (whole : defs ≡ read ++ declaration d ∷ rest) (old : TypeEnv) (table : TermTable) (left : IsLeftByRefusal e (environment_view old)) (s : Declaring e defs read old table) (new : TypeEnv) (n : Interns d.term.text old new) where
  trees : decl_trees defs ≡ decl_trees read ++ d ∷ decl_trees rest
  trees = ap decl_trees whole ∙ flat_map-append decl_of read (declaration d ∷ rest)

  names : decl_names defs ≡ decl_names read ++ d.term.text ∷ decl_names rest
  names = ap (map (λ d. d.term.text)) trees ∙ map-append (λ d. d.term.text) (decl_trees read) (d ∷ decl_trees rest)

  left_new : IsLeftByRefusal e (environment_view new)
  left_new = left_more e r old left new (may_intern d.term.text old new n)

  place_here : term_at table (number (names_of old) d.term.text) ≡ place_among (decl_names read) d.term.text
  place_here = at_number (names_of old) (term_at table) (place_among (decl_names read)) s.has.finds d.term.text

  pub wrong : IsWrongDeclaration d old new table → BreaksDeclaration e.known read d
  wrong (inl taken) = name_taken (place_member (decl_names read) d.term.text taken.id (sym place_here ∙ taken.taken))
  wrong (inr (inl both)) = both_marks (λ h. false≢true (sym (ap not both) ∙ h))
  wrong (inr (inr unknown)) = unknown_wrong e r new left_new read d unknown

  module _ (table' : TermTable) (a : Declares d old new table table') where
    same_number : number (names_of old) d.term.text ≡ number (term_names_met e.known defs) d.term.text
    same_number =
        let after : List (List ℕ) = decl_names rest ++ flat_map function_of defs in
        let all : term_names_met e.known defs ≡ with_names (with_name (names_of old) d.term.text) after =
        ap (λ ns. with_names e.known.names (ns ++ flat_map function_of defs)) names
        ∙ ap (with_names e.known.names) (append_assoc (decl_names read) (d.term.text ∷ decl_names rest) (flat_map function_of defs))
        ∙ with_names_append e.known.names (decl_names read) (d.term.text ∷ after)
        ∙ ap (λ ns. with_names (with_name ns d.term.text) after) (sym s.has.names) in
        sym (ap (λ ns. number ns d.term.text) all ∙ number_stays (names_of old) after d.term.text)

    args : (a.adds.arg_tys ≡ map (known_type e.known) d.arg_tys) × All (IsKnownType e.known.type_names) d.arg_tys
    args = all_known_of e r new left_new d.arg_tys a.adds.arg_tys a.adds.arguments

    result : (a.adds.ret_ty ≡ known_type e.known d.ret_ty) × IsKnownType e.known.type_names d.ret_ty
    result = known_of e r new left_new d.ret_ty a.adds.ret_ty a.adds.result

    same_entry : signature_entry (length table.terms.items) (number (names_of old) d.term.text) a.adds.arg_tys a.adds.ret_ty d ≡ declared_alone e defs d (length table.terms.items)
    same_entry =
        ap (λ n. signature_entry (length table.terms.items) n a.adds.arg_tys a.adds.ret_ty d) same_number
        ∙ ap (λ ts. signature_entry (length table.terms.items) (number (term_names_met e.known defs) d.term.text) ts a.adds.ret_ty d) (args).0
        ∙ ap (λ t. signature_entry (length table.terms.items) (number (term_names_met e.known defs) d.term.text) (map (known_type e.known) d.arg_tys) t d) (result).0

    pub right : Declaring e defs (read ++ declaration d ∷ []) new table'
    right = record {
      has = subst (λ ns. HoldsTerms e ns ns (map (declared_alone e defs) (decl_trees (read ++ declaration d ∷ []))) new table') (sym (names_more read d))
          (subst (λ fs. HoldsTerms e (decl_names read ++ d.term.text ∷ []) (decl_names read ++ d.term.text ∷ []) fs new table') (sym (ap (map (declared_alone e defs)) (decls_more read d) ∙ map-append (declared_alone e defs) (decl_trees read) (d ∷ [])))
          (adds_term e (decl_names read) (decl_names read) (map (declared_alone e defs) (decl_trees read)) old table s.has d.term.text (declared_alone e defs d) (decl_names read ++ d.term.text ∷ []) new table'
          (n.names ∙ ap (λ ns. with_name ns d.term.text) s.has.names ∙ with_names_push e.known.names (decl_names read) d.term.text) n.names n.inverse a.free a.adds.ids
          (a.adds.terms ∙ ap (λ t. term_views table.terms.items ++ t ∷ []) same_entry) a.adds.converters));
      right = subst (AreRightDeclarations e.known) (sym (decls_more read d)) (record {
        arguments = All-push (HasKnownArguments e.known) (decl_trees read) d s.right.arguments (args).1;
        results = All-push (HasKnownResult e.known) (decl_trees read) d s.right.results (result).1;
        marks = All-push IsNotBothMultiAndPartial (decl_trees read) d s.right.marks a.marks;
      });
    }

-- a declaration's name is looked at first, then its marks, then its types
pub declaration_read : (d : DeclTree) (old new : TypeEnv) (table table' : TermTable) (es one two es' : List Error) → Interns d.term.text old new → IsFreeOrReported (number (names_of old) d.term.text) table es one → ReportsIf (d.multi && d.partial) one two → AddsOrReports d new (number (names_of old) d.term.text) table table' two es' → ReadsDeclaration d old table es new table' es'
declaration_read d old new table table' es one two es' n f m a =
    let F : Type 0 = term_at table (number (names_of old) d.term.text) ≡ None in
    let T : Type 0 = IsTakenByTerm (number (names_of old) d.term.text) table in
    let b : Bool = d.multi && d.partial in
    let A : Type 0 = AddsTerm d new (number (names_of old) d.term.text) table table' in
    let first : NotesIfWrong es two (F × (b ≡ false)) (T ⊎ (b ≡ true)) = both_note F (b ≡ false) T (b ≡ true) es one two f (if_noted b one two m) in
    let all : NotesIfWrong es es' ((F × (b ≡ false)) × A) ((T ⊎ (b ≡ true)) ⊎ HasUnknown d new) = both_note (F × (b ≡ false)) A (T ⊎ (b ≡ true)) (HasUnknown d new) es two es' first a in
    record {
      interns = n;
      reads = notes_as ((F × (b ≡ false)) × A) (Declares d old new table table') ((T ⊎ (b ≡ true)) ⊎ HasUnknown d new) (IsWrongDeclaration d old new table) es es'
          (λ r. record { interns = n; free = r.0.0; marks = ap not r.0.1; adds = r.1 })
          (λ w. ⊎_elim (λ u. ⊎_elim (λ t. inl t) (λ m. inr (inl m)) u) (λ x. inr (inr x)) w) all;
    }

-- what is noted of it begins at it
pub declaration_begins : (d : DeclTree) (new : TypeEnv) (table table' : TermTable) (name : ℕ) (es one two es' : List Error) → IsFreeOrReported name table es one → ReportsIf (d.multi && d.partial) one two → AddsOrReports d new name table table' two es'
    → FirstStandsAt (declaration_positions d) es one → FirstStandsAt (declaration_positions d) one two → FirstStandsAt (declaration_positions d) two es' → FirstStandsAt (declaration_positions d) es es'
declaration_begins d new table table' name es one two es' f m a x y z =
    let b : Bool = d.multi && d.partial in
    let first : MayNoteMore es one = may_note (term_at table name ≡ None) (IsTakenByTerm name table) es one f in
    let second : MayNoteMore one two = may_note (b ≡ false) (b ≡ true) one two (if_noted b one two m) in
    let third : MayNoteMore two es' = may_note (AddsTerm d new name table table') (HasUnknown d new) two es' a in
    begins_both (declaration_positions d) es two es' (may_both es one two first second) (begins_both (declaration_positions d) es one two first x second y) third z

-- the definitions before one, and after it
module _ (defs : List Def) (i : ℕ) (d : Def) (within : i < length defs) (here : d ≡ get_or defs i d) where
  pub taken_next : definition_views (take (i + 1) defs) ≡ definition_views (take i defs) ++ definition_view d ∷ []
  taken_next = ap definition_views (take_more defs i d within ∙ ap (λ x. take i defs ++ x ∷ []) (sym here)) ∙ map-append definition_view (take i defs) (d ∷ [])

  pub around : definition_views defs ≡ definition_views (take i defs) ++ definition_view d ∷ definition_views (drop (i + 1) defs)
  around =
      ap definition_views (sym (take-append-drop i defs))
      ∙ map-append definition_view (take i defs) (drop i defs)
      ∙ ap (λ l. definition_views (take i defs) ++ l) (at_drop_more definition_views defs i d within ∙ ap (λ x. definition_view x ∷ definition_views (drop (i + 1) defs)) (sym here))

module _ (e : TypesRead) (r : AreReadable e) (defs read rest : List Definition) (old new : TypeEnv) (table table' : TermTable) (es es' : List Error) (m : MayIntern old new) (w : IsWithin table') where
  other : (d : Definition) → decl_of d ≡ [] → (es' ≡ es) × (new ≡ old) × (table' ≡ table) → ReadsTerms e of_signatures defs (Declaring e defs read) old table es → ReadsTerms e of_signatures defs (Declaring e defs (read ++ d ∷ [])) new table' es'
  other d none same s =
      let trees : decl_trees (read ++ d ∷ []) ≡ decl_trees read = flat_map-append decl_of read (d ∷ []) ∙ ap (λ l. decl_trees read ++ (l ++ [])) none ∙ append-nil (decl_trees read) in
      let go : Declaring e defs read old table → Declaring e defs (read ++ d ∷ []) old table = grind (arith, common_steps, right) in
      step e of_signatures defs (Declaring e defs read) (Declaring e defs (read ++ d ∷ [])) old new table table' es es' (Unit {0}) ⊥ (left_more e r old s.left new m) w (inl (same.0, tt))
      (λ h _. subst (λ env. Declaring e defs (read ++ d ∷ []) env table') (sym same.1) (subst (Declaring e defs (read ++ d ∷ []) old) (sym same.2) (go h)))
      (λ h x. absurd x) s

  pub next : (d : Definition) → defs ≡ read ++ d ∷ rest → ReadsIfDeclared d old table es new table' es' → FirstStandsAt (definition_positions d) es es' → ReadsTerms e of_signatures defs (Declaring e defs read) old table es → ReadsTerms e of_signatures defs (Declaring e defs (read ++ d ∷ [])) new table' es'
  next (declaration d) whole a b s =
      step e of_signatures defs (Declaring e defs read) (Declaring e defs (read ++ declaration d ∷ [])) old new table table' es es' (Declares d old new table table') (IsWrongDeclaration d old new table) (left_more e r old s.left new m) w a.reads
      (λ h x. right e r defs read rest d whole old table s.left h new a.interns table' x)
      (λ h x. record { positions = definition_positions (declaration d); breaks = by_declaration read rest d whole (wrong e r defs read rest d whole old table s.left h new a.interns x); begins = b }) s
  next (type_definition d) whole a b s = other (type_definition d) refl a s
  next (extractor_definition d) whole a b s = other (extractor_definition d) refl a s
  next (converter_definition d) whole a b s = other (converter_definition d) refl a s
  next (rule_definition d) whole a b s = other (rule_definition d) refl a s
  next (extern_definition d) whole a b s = other (extern_definition d) refl a s
  next other_definition whole a b s = other other_definition refl a s

-- after the definition at i
pub next_declaration : (e : TypesRead) → AreReadable e → (defs : List Def) (i : ℕ) (d : Def) → i < length defs → d ≡ get_or defs i d → (old new : TypeEnv) (table table' : TermTable) (es es' : List Error) → MayIntern old new → IsWithin table'
    → ReadsIfDeclared (definition_view d) old table es new table' es' → FirstStandsAt (definition_positions (definition_view d)) es es'
    → ReadsTerms e of_signatures (definition_views defs) (Declaring e (definition_views defs) (definition_views (take i defs))) old table es
    → ReadsTerms e of_signatures (definition_views defs) (Declaring e (definition_views defs) (definition_views (take (i + 1) defs))) new table' es'
next_declaration e r defs i d within here old new table table' es es' m w a b s =
    subst (λ ds. ReadsTerms e of_signatures (definition_views defs) (Declaring e (definition_views defs) ds) new table' es') (sym (taken_next defs i d within here))
    (next e r (definition_views defs) (definition_views (take i defs)) (definition_views (drop (i + 1) defs)) old new table table' es es' m w (definition_view d) (around defs i d within here) a b s)
