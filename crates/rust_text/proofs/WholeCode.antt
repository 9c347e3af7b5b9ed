-- The code of a program is that of the answer whose tables it has.
use Rattle.std.proofs.Common.{◌≡◌, ◌≢◌, ◌∙◌, ◌++◌, ◌∷◌, [], ◌⊎◌, Bool, false, List, None, ℕ, Result, Ok, Err, inl, inr, sym, ap, subst}
use Rattle.std.specs.Prelude.{All, IfErr}
use Rattle.std.proofs.lemmas.List.{append_assoc}
use Rattle.model.specs.lists.Signatures.{text_of}
use Rattle.model.specs.claims.Layers.{own_program}
use Rattle.core_types.specs.Envs.{names_of}
use Rattle.core_types.specs.TypeViews.{type_views}
use Rattle.core_types.specs.declared.type_env.TypeEnv.{TypeEnv}
use Rattle.core_terms.specs.declared.term.Term.{Term}
use Rattle.core_terms.specs.TermViews.{term_views}
use Rattle.rust_items.specs.Claims.{IsWellNamed, TellsFirst}
use Rattle.rust_items.specs.Faults.{TellsOf}
use Rattle.rust_items.specs.declared.faults.CodeError.{CodeError}
use Rattle.rust_items.proofs.Turns.{tells_more}
use Rattle.core_syntax.specs.declared.syntax.Files.{Files}
use Rattle.rust_items.specs.FilePlaces.{Sources}
use Rattle.rust_items.specs.SourceViews.{sources_view}
use Rattle.rust_items.specs.declared.options.CodegenOptions.{CodegenOptions}
use Rattle.rust_text.specs.Settings.{setting_by_options, setting_of_included}
use Rattle.rust_items.specs.ItemViews.{items_by}
use Rattle.rust_items.specs.LineViews.{lines_view}
use Rattle.rust_items.specs.NamedPrograms.{NamedProgram, kinds}
use Rattle.rust_items.specs.ProgramViews.{named_program}
use Rattle.rust_items.specs.WrittenItems.{AreAlike, ItemSetting, TellsTwoSignatures, context_functions, items_before}
use Rattle.rust_items.specs.declared.program.Program.{Program}
use Rattle.cranelift_isle.specs.declared.lower.LoweredTerm.{LoweredTerm}
use Rattle.cranelift_isle.specs.declared.lower.Lowered.{Lowered}
use Rattle.cranelift_isle.specs.Lowerings.{lowered_views}
use Rattle.rust_text.specs.Expanded.{TellsInside, first_inside, inside_text, lowered_sites}
use Rattle.rust_text.specs.WholeCode.{IsWholeCode, TellsNames, first_line, front_written, functions_asked, items_of, named_of}
use Rattle.rust_text.specs.WrittenFunctions.{TextSetting, functions_in, OfAnswer}

some_text : (x : ℕ) (rest text : List ℕ) → text ≡ x ∷ rest → text ≢ []
some_text x rest text e none = absurd (cc)

pub told_weaker : {A : Type 0} (r : Result A CodeError) (P Q : List ℕ → Type 0) → ((text : List ℕ) → P text → Q text) → IfErr r (λ e. TellsOf e P) → IfErr r (λ e. TellsOf e Q)
told_weaker (Ok x) P Q f h = h
told_weaker (Err e) P Q f h = tells_more e P Q h f

module _ (program : Program) (l : Lowered) (envs : program.tyenv.now ≡ l.tyenv) (terms : program.terms.now ≡ l.termenv.terms.items) where
  setting_same : items_by program ≡ items_of l (lines_view program.lines.now)
  setting_same =
      let by : TypeEnv → ItemSetting = λ env. record { names = names_of env; types = type_views env.types.items; sources = lines_view program.lines.now } in
      ap by envs

  named_same : (done : List LoweredTerm) → done ≡ l.terms.items → named_program program.tyenv.now program.terms.now done ≡ named_of l
  named_same done e =
      ap (λ env. named_program env program.terms.now done) envs ∙ ap (λ ts. named_program l.tyenv ts done) terms ∙ ap (λ ts. named_program l.tyenv l.termenv.terms.items ts) e

  before_same : (excluded : Bool) → items_before (items_by program) excluded (term_views program.terms.now) ≡ items_before (items_of l (lines_view program.lines.now)) excluded (term_views l.termenv.terms.items)
  before_same excluded =
      ap (λ s. items_before s excluded (term_views program.terms.now)) setting_same ∙ ap (λ ts. items_before (items_of l (lines_view program.lines.now)) excluded (term_views ts)) terms

  asked_same : context_functions (items_by program) (term_views program.terms.now) ≡ functions_asked l (lines_view program.lines.now)
  asked_same =
      ap (λ s. context_functions s (term_views program.terms.now)) setting_same ∙ ap (λ ts. context_functions (items_of l (lines_view program.lines.now)) (term_views ts)) terms

  inside_same : (done : List LoweredTerm) → done ≡ l.terms.items → first_inside (term_views program.terms.now) (lowered_sites done) ≡ first_inside (term_views l.termenv.terms.items) (lowered_sites l.terms.items)
  inside_same done e = ap (λ ts. first_inside (term_views ts) (lowered_sites done)) terms ∙ ap (λ ts. first_inside (term_views l.termenv.terms.items) (lowered_sites ts)) e

  pub names_told : (done : List LoweredTerm) (text : List ℕ) → done ≡ l.terms.items
      → TellsFirst (kinds (named_program program.tyenv.now program.terms.now done)) text ⊎ TellsInside (names_of program.tyenv.now) (term_views program.terms.now) (lowered_sites done) text
      → TellsNames l (lines_view program.lines.now) text
  names_told done text e (inl h) = inl (inl (subst (λ n. TellsFirst (kinds n) text) (named_same done e) h))
  names_told done text e (inr h) =
      inl (inr (h.0, sym (inside_same done e) ∙ h.1, h.2 ∙ ap (λ env. inside_text (text_of (names_of env) h.0)) envs))

  pub signatures_told : (text : List ℕ) → TellsTwoSignatures (lines_view program.lines.now) (context_functions (items_by program) (term_views program.terms.now)) text → TellsNames l (lines_view program.lines.now) text
  signatures_told text h = inr (subst (λ fs. TellsTwoSignatures (lines_view program.lines.now) fs text) asked_same h)

  pub whole : (s : TextSetting) (excluded : Bool) (done : List LoweredTerm) (start items code : List ℕ) → s.sources ≡ lines_view program.lines.now → done ≡ l.terms.items
      → start ≡ [] → code ≡ first_line ++ items
      → OfAnswer l (λ p. items ≡ start ++ (items_before (items_by program) excluded (term_views program.terms.now) ++ functions_in s p (lowered_views l.terms.items)))
      → All IsWellNamed (kinds (named_program program.tyenv.now program.terms.now done))
      → AreAlike (context_functions (items_by program) (term_views program.terms.now))
      → first_inside (term_views program.terms.now) (lowered_sites done) ≡ None → IsWholeCode l s excluded code
  whole s excluded done start items code from e empty headed written named alike expanded = record {
    some = some_text _ _ code headed;
    written = λ defs expand rules answers.
        let functions = functions_in s (own_program defs rules) (lowered_views l.terms.items) in
        let before = items_before (items_of l s.sources) excluded (term_views l.termenv.terms.items) in
        headed ∙ ap (λ x. first_line ++ x) (written defs expand rules answers ∙ ap (λ x. x ++ (items_before (items_by program) excluded (term_views program.terms.now) ++ functions)) empty)
        ∙ ap (λ x. first_line ++ (x ++ functions)) (before_same excluded ∙ ap (λ x. items_before (items_of l x) excluded (term_views l.termenv.terms.items)) (sym from))
        ∙ sym (append_assoc first_line before functions);
    named = subst (λ n. All IsWellNamed (kinds n)) (named_same done e) named;
    alike = subst AreAlike (asked_same ∙ ap (functions_asked l) (sym from)) alike;
    expanded = sym (inside_same done e) ∙ expanded;
  }

-- the same by files and options
pub of_options : (l : Lowered) (files : Files) (options : CodegenOptions) (sources : Sources) → sources ≡ sources_view files options.prefixes.items
    → ◌≡◌ {A = TextSetting} (record { names = names_of l.tyenv; sources = sources; is_logged = options.emit_logging }) (setting_by_options l files options)
of_options l files options sources e = let by : Sources → TextSetting = λ x. record { names = names_of l.tyenv; sources = x; is_logged = options.emit_logging } in ap by e

pub of_included : (l : Lowered) (files : Files) (options : CodegenOptions) → options.prefixes.items ≡ [] → options.emit_logging ≡ false → setting_by_options l files options ≡ setting_of_included l files
of_included l files options none silent =
    let by : Sources → Bool → TextSetting = λ x b. record { names = names_of l.tyenv; sources = x; is_logged = b } in
    ap (λ ps. by (sources_view files ps) options.emit_logging) none ∙ ap (by (sources_view files [])) silent
