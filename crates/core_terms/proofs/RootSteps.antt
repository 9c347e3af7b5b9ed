-- Reading which terms the rules are of, by types that are handed in, one definition after another.
use Rattle.std.proofs.Common.{◌≡◌, ℕ, ◌+◌, ◌<◌, false, List, [], ◌∷◌, ◌++◌, length, take, drop, get_or, Option, None, Some, ◌⊎◌, is_some, All, refl, sym, ap, subst, ◌∙◌, inl, inr, arith}
use Rattle.std.proofs.lemmas.Bool.{false≢true}
use Rattle.std.proofs.lemmas.List.{append-nil}
use Rattle.std.proofs.lemmas.List.Concat.{flat_map-append}
use Rattle.std.proofs.lemmas.List.Elements.{All-push}
use Rattle.std.proofs.lemmas.Grind.{common_steps}
use Rattle.model.specs.lists.Syntax.{Name, RuleTree, Definition, type_definition, declaration, extractor_definition, converter_definition, rule_definition, extern_definition, other_definition}
use Rattle.model.specs.rules.Outcome.{then_option}
use Rattle.model.specs.lists.Tables.{ConstructorEntry, ExtractorEntry, declared_term}
use Rattle.model.specs.lists.TermTable.{decl_flags, decl_names, rule_of, rule_trees, term_id, term_names_met, root_name, is_declared, HasDeclaredRoot}
use Rattle.model.specs.claims.Environments.{TypesRead, AreReadable, IsLeftByRefusal}
use Rattle.model.proofs.Options.{then_some}
use Rattle.core_syntax.specs.declared.syntax.Def.{Def}
use Rattle.core_syntax.specs.declared.syntax.Error.{Error}
use Rattle.core_syntax.specs.Positions.{definition_positions}
use Rattle.core_syntax.specs.SyntaxViews.{definition_view, definition_views}
use Rattle.core_types.specs.declared.type_env.TypeEnv.{TypeEnv}
use Rattle.core_types.specs.Envs.{IsInterned}
use Rattle.core_types.specs.EnvViews.{environment_view}
use Rattle.core_terms.specs.declared.term_table.TermTable.{TermTable}
use Rattle.core_terms.specs.Reading.{IsWithin, internal_entry, root_term_id, term_of_name}
use Rattle.core_terms.specs.TermBreaches.{of_definitions, FirstStandsAt, by_rule}
use Rattle.core_terms.specs.Stages.{constructor_after}
use Rattle.core_terms.specs.Signing.{ReadsTerms, declared_so_far}
use Rattle.core_terms.specs.ReadTerms.{Stand, RootsRead, IsOfDeclared, IsOfMade, ReadsIfRule}
use Rattle.core_terms.proofs.Declaring.{taken_next, around}
use Rattle.core_terms.proofs.ErrorSteps.{step}
use Rattle.core_terms.proofs.Rooting.{same_constructor, new_constructor}
use Rattle.core_terms.proofs.ReadTerms.{declared_found, made_found, nothing_found, stands_on}
use Rattle.core_terms.proofs.TypesStaying.{left_interned}

module _ (e : TypesRead) (defs read rest : List Definition) (r : RuleTree) (whole : defs ≡ read ++ rule_definition r ∷ rest) (env : TypeEnv) (old : TermTable) (left : IsLeftByRefusal e (environment_view env)) (readable : AreReadable e) (s : RootsRead e defs read env old) where
  more : rule_trees (read ++ rule_definition r ∷ []) ≡ rule_trees read ++ r ∷ []
  more = flat_map-append rule_of read (rule_definition r ∷ [])

  interned : IsInterned env
  interned = left_interned e readable env left

  abbrev before : List ℕ → Option ConstructorEntry
  before = constructor_after (rule_trees read)

  abbrev after : List ℕ → Option ConstructorEntry
  after = constructor_after (rule_trees read ++ r ∷ [])

  abbrev nothing : List ℕ → Option ExtractorEntry
  nothing x = None

  pub rule_rooted : (new : TermTable) → IsOfDeclared r env old new → RootsRead e defs (read ++ rule_definition r ∷ []) env new
  rule_rooted new d =
      let named = then_some (root_name r.pattern) (term_of_name env old) d.id d.root in
      let x : List ℕ = named.0.text in
      let place : term_id defs x ≡ Some d.id = declared_found e defs (decl_names defs) before nothing env old interned s.stand named.0 d.id d.entry named.2 d.at d.declared in
      let rooted : HasDeclaredRoot defs r = ap (is_declared defs) named.1 ∙ ap is_some place in
      record {
        stand = subst (λ rs. Stand e defs (decl_names defs) (constructor_after rs) nothing env new) (sym more)
            (stands_on e defs (decl_names defs) before nothing env old interned s.stand x d.id internal_entry after nothing new place d.changes
            (λ t j h. ap (λ m. record (declared_so_far e.known (term_names_met e.known defs) before nothing t j) { kind = declared_term (decl_flags t) m None }) (same_constructor defs (rule_trees read) r named.0 named.1 t.term.text h))
            (λ t j h. ap (λ m. record (declared_so_far e.known (term_names_met e.known defs) before nothing t j) { kind = declared_term (decl_flags t) m None }) (new_constructor defs (rule_trees read) r named.0 named.1 t.term.text h)));
        roots = subst (All (HasDeclaredRoot defs)) (sym more) (All-push (HasDeclaredRoot defs) (rule_trees read) r s.roots rooted);
        converters = rw d.changes.converters s.converters;
      }

  unrooted : (o : Option Name) → then_option o (term_of_name env old) ≡ None → is_declared defs o ≡ false
  unrooted o h = grind (arith, common_steps, nothing_found e defs (decl_names defs) before nothing env old interned s.stand)

  pub rule_unrooted : (root_term_id env old r ≡ None) ⊎ IsOfMade r env old → HasDeclaredRoot defs r → ⊥
  rule_unrooted (inl none) rooted = false≢true (sym (unrooted (root_name r.pattern) none) ∙ rooted)
  rule_unrooted (inr m) rooted =
      let named = then_some (root_name r.pattern) (term_of_name env old) m.id m.root in
      let none : term_id defs named.0.text ≡ None = made_found e defs (decl_names defs) before nothing env old interned s.stand named.0 m.id m.entry named.2 m.at m.made in
      let other : is_declared defs (root_name r.pattern) ≡ false = ap (is_declared defs) named.1 ∙ ap is_some none in
      false≢true (sym other ∙ rooted)

module _ (e : TypesRead) (readable : AreReadable e) (defs read rest : List Definition) (env : TypeEnv) (table table' : TermTable) (es es' : List Error) (w : IsWithin table') where
  other : (d : Definition) → rule_of d ≡ [] → (es' ≡ es) × (table' ≡ table) → ReadsTerms e of_definitions defs (RootsRead e defs read) env table es → ReadsTerms e of_definitions defs (RootsRead e defs (read ++ d ∷ [])) env table' es'
  other d none same s =
      let trees : rule_trees (read ++ d ∷ []) ≡ rule_trees read = flat_map-append rule_of read (d ∷ []) ∙ ap (λ l. rule_trees read ++ (l ++ [])) none ∙ append-nil (rule_trees read) in
      let go : RootsRead e defs read env table → RootsRead e defs (read ++ d ∷ []) env table = grind (arith, common_steps) in
      step e of_definitions defs (RootsRead e defs read) (RootsRead e defs (read ++ d ∷ [])) env env table table' es es' (Unit {0}) ⊥ s.left w (inl (same.0, tt))
      (λ h _. subst (RootsRead e defs (read ++ d ∷ []) env) (sym same.1) (go h))
      (λ h x. absurd x) s

  next : (d : Definition) → defs ≡ read ++ d ∷ rest → ReadsIfRule d env table es table' es' → FirstStandsAt (definition_positions d) es es' → ReadsTerms e of_definitions defs (RootsRead e defs read) env table es → ReadsTerms e of_definitions defs (RootsRead e defs (read ++ d ∷ [])) env table' es'
  next (rule_definition r) whole a b s =
      step e of_definitions defs (RootsRead e defs read) (RootsRead e defs (read ++ rule_definition r ∷ [])) env env table table' es es' (IsOfDeclared r env table table') ((root_term_id env table r ≡ None) ⊎ IsOfMade r env table) s.left w a
      (λ h x. rule_rooted e defs read rest r whole env table s.left readable h table' x)
      (λ h x. record { positions = definition_positions (rule_definition r); breaks = by_rule read rest r whole (rule_unrooted e defs read rest r whole env table s.left readable h x); begins = b }) s
  next (declaration d) whole a b s = other (declaration d) refl a s
  next (type_definition d) whole a b s = other (type_definition d) refl a s
  next (extractor_definition d) whole a b s = other (extractor_definition d) refl a s
  next (converter_definition d) whole a b s = other (converter_definition d) refl a s
  next (extern_definition d) whole a b s = other (extern_definition d) refl a s
  next other_definition whole a b s = other other_definition refl a s

-- after the definition at i
pub next_rule_root : (e : TypesRead) → AreReadable e → (defs : List Def) (i : ℕ) (d : Def) → i < length defs → d ≡ get_or defs i d → (env : TypeEnv) (table table' : TermTable) (es es' : List Error) → IsWithin table'
    → ReadsIfRule (definition_view d) env table es table' es' → FirstStandsAt (definition_positions (definition_view d)) es es'
    → ReadsTerms e of_definitions (definition_views defs) (RootsRead e (definition_views defs) (definition_views (take i defs))) env table es
    → ReadsTerms e of_definitions (definition_views defs) (RootsRead e (definition_views defs) (definition_views (take (i + 1) defs))) env table' es'
next_rule_root e r defs i d within here env table table' es es' w a b s =
    subst (λ ds. ReadsTerms e of_definitions (definition_views defs) (RootsRead e (definition_views defs) ds) env table' es') (sym (taken_next defs i d within here))
    (next e r (definition_views defs) (definition_views (take i defs)) (definition_views (drop (i + 1) defs)) env table table' es es' w (definition_view d) (around defs i d within here) a b s)
