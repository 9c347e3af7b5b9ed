-- The text of a term's function is that of the program that lowering answers.
use Rattle.std.proofs.Common.{◌≡◌, ◌≢◌, ◌∙◌, ◌++◌, ◌∷◌, [], ℕ, Bool, ◌+◌, ◌<◌, ◌≤◌, List, Option, Some, None, option_map, slice_get, length, get_or, take, map, refl, sym, ap, subst, Contains}
use Rattle.std.specs.List.{flat_map}
use Rattle.std.proofs.lemmas.Grind.{flat_map-append}
use Rattle.std.proofs.lemmas.List.{append_assoc, append-nil, map-append, take_all, take_more}
use Rattle.std.proofs.lemmas.List.Elements.{Contains-get_or}
use Rattle.std.proofs.lemmas.Option.{slice_get-map}
use Rattle.model.specs.lists.Signatures.{text_of}
use Rattle.model.specs.lists.Syntax.{Definition}
use Rattle.model.specs.lists.Tables.{TypeEntry, TermEntry}
use Rattle.model.specs.lists.Elaborated.{TypedRules}
use Rattle.model.specs.rules.Program.{Program}
use Rattle.model.specs.claims.Layers.{own_program, LoweringAnswers}
use Rattle.model.proofs.Elements.{In, contains_from_in, in_from_contains, map_in}
use Rattle.model_code.specs.Code.{Block}
use Rattle.model_code.specs.Notation.{ReturnForm}
use Rattle.model_code.specs.ProgramNotation.{notation_of}
use Rattle.model_code.specs.Spelling.{spelled}
use Rattle.model_code.specs.Written.{function_body}
use Rattle.core_syntax.specs.SyntaxViews.{position}
use Rattle.core_types.specs.EnvViews.{environment_view}
use Rattle.core_types.specs.Envs.{constant_at}
use Rattle.core_types.specs.Envs as Envs
use Rattle.core_types.specs.TypeViews.{type_views}
use Rattle.core_terms.specs.declared.term.Term.{Term}
use Rattle.core_terms.specs.TermViews.{term_view, term_views}
use Rattle.core_rules.specs.ShownEnvs.{environment_shown_by}
use Rattle.rust_code.specs.CodeOf.{code_in_program}
use Rattle.rust_items.specs.LineViews.{lines_view}
use Rattle.cranelift_isle.specs.declared.lower.LoweredTerm as Code
use Rattle.cranelift_isle.specs.declared.lower.Lowered.{Lowered}
use Rattle.cranelift_isle.specs.Lowerings.{lowered_view, lowered_views}
use Rattle.rust_text.specs.declared.notation.Writer.{Writer}
use Rattle.rust_text.specs.LoweredCode.{IsItsCode, OfLowered}
use Rattle.rust_text.specs.ProgramNames.{names_of}
use Rattle.rust_text.specs.Settings.{setting_by, setting_by_program}
use Rattle.rust_text.specs.Writers.{gives_view, IsNotationOf, Says}
use Rattle.rust_text.specs.WrittenFunctions.{TextSetting, function_in, function_of_entry, function_or_nothing, functions_in, head_written, kind_of_entry, OfAnswer}

-- 1. a writer of the answer's tables writes by the program of the definitions
module _ (w : Writer) (l : Lowered) (envs : w.program.tyenv.now ≡ l.tyenv) (terms : w.program.terms.now ≡ l.termenv.terms.items) (defs : List Definition) (expand : Bool) (rules : TypedRules)
    (answers : LoweringAnswers defs expand (environment_view l.tyenv) (environment_shown_by l.termenv) rules (lowered_views l.terms.items)) where
  types_are : (own_program defs rules).types ≡ type_views w.program.tyenv.now.types.items
  types_are = sym answers.environments.types.types ∙ ap (λ y. type_views y.types.items) (sym envs)

  pub terms_are : (own_program defs rules).terms ≡ term_views w.program.terms.now
  terms_are = sym answers.environments.rows.table ∙ ap term_views (sym terms)

  is_notation : IsNotationOf w (notation_of (own_program defs rules) (gives_view w.gives) w.program.is_logged)
  is_notation = record {
    constants = (own_program defs rules).constants;
    rules = (own_program defs rules).rules;
    types = λ name. sym (answers.environments.types.constants name) ∙ ap (λ y. constant_at y name) (sym envs);
    is = ap (λ ts. notation_of (record { types = ts; constants = (own_program defs rules).constants; terms = (own_program defs rules).terms; rules = (own_program defs rules).rules }) (gives_view w.gives) w.program.is_logged) types_are
        ∙ ap (λ ts. notation_of (record { types = type_views w.program.tyenv.now.types.items; constants = (own_program defs rules).constants; terms = ts; rules = (own_program defs rules).rules }) (gives_view w.gives) w.program.is_logged) terms_are;
  }

-- 2. the text of a term's function
module _ (w : Writer) (l : Lowered) (t : Code.LoweredTerm) (term : Term) (code : Block) (old mid new : List ℕ) where
  abbrev texts : Program → List TypeEntry → List TermEntry → ReturnForm → Block → List ℕ
  texts p types terms kind block =
      spelled (names_of (record { names = Envs.names_of w.program.tyenv.now; types = types; terms = terms; sources = lines_view w.program.lines.now; term_name = term.name.0; term_at = position term.decl_pos }))
      (function_body (notation_of p kind w.program.is_logged) block)

  abbrev head : List TypeEntry → ReturnForm → List ℕ
  head types kind =
      head_written (Envs.names_of w.program.tyenv.now) types kind (text_of (Envs.names_of w.program.tyenv.now) term.name.0) (term_view term).arg_tys (term.ret_ty.0 ∷ [])

  pub function_of_entry_written : w.program.tyenv.now ≡ l.tyenv → w.program.terms.now ≡ l.termenv.terms.items → gives_view w.gives ≡ kind_of_entry (term_view term) → OfLowered l t (IsItsCode code)
      → mid ≡ old ++ head (type_views w.program.tyenv.now.types.items) (gives_view w.gives)
      → Says w (λ n. new ≡ mid ++ spelled (names_of (setting_by w term)) (function_body n code))
      → OfLowered l t (λ p x. new ≡ old ++ function_of_entry (setting_by_program w.program) p x (term_view term))
  function_of_entry_written envs terms kind its headed says defs expand rules answers here =
      let p = own_program defs rules in
      let x = lowered_view t in
      let types = type_views w.program.tyenv.now.types.items in
      let entries = term_views w.program.terms.now in
      let types_here = sym (types_are w l envs terms defs expand rules answers) in
      let terms_here = sym (terms_are w l envs terms defs expand rules answers) in
      let block = code_in_program p x.term x.set.sites x.tree in
      let k = kind_of_entry (term_view term) in
      let begin : mid ≡ old ++ head p.types k =
      headed ∙ ap (λ ts. old ++ head ts (gives_view w.gives)) types_here ∙ ap (λ g. old ++ head p.types g) kind in
      let body : texts p types entries (gives_view w.gives) code ≡ texts p p.types p.terms k block =
      ap (λ ts. texts p ts entries (gives_view w.gives) code) types_here
      ∙ ap (λ ts. texts p p.types ts (gives_view w.gives) code) terms_here
      ∙ ap (λ g. texts p p.types p.terms g code) kind
      ∙ ap (λ b. texts p p.types p.terms k b) (its defs expand rules answers here) in
      says (notation_of p (gives_view w.gives) w.program.is_logged) (is_notation w l envs terms defs expand rules answers)
      ∙ ap (λ b. mid ++ b) body
      ∙ ap (λ m. m ++ texts p p.types p.terms k block) begin
      ∙ append_assoc old (head p.types k) (texts p p.types p.terms k block)

-- 3. by the term's entry
module _ (w : Writer) (l : Lowered) (t : Code.LoweredTerm) (s : TextSetting) (old new : List ℕ) (envs : w.program.tyenv.now ≡ l.tyenv) (terms : w.program.terms.now ≡ l.termenv.terms.items) where
  pub function_there : (term : Term) → slice_get w.program.terms.now t.id.0 ≡ Some term → OfLowered l t (λ p x. new ≡ old ++ function_of_entry s p x (term_view term)) → OfLowered l t (λ p x. new ≡ old ++ function_in s p x)
  function_there term at h defs expand rules answers here =
      let x = lowered_view t in
      let entry : slice_get (own_program defs rules).terms x.term ≡ Some (term_view term) =
      ap (λ ts. slice_get ts t.id.0) (terms_are w l envs terms defs expand rules answers) ∙ slice_get-map term_view w.program.terms.now t.id.0 ∙ ap (option_map term_view) at in
      h defs expand rules answers here ∙ ap (λ o. old ++ function_or_nothing s (own_program defs rules) x o) (sym entry)

  pub no_function : slice_get w.program.terms.now t.id.0 ≡ None → new ≡ old → OfLowered l t (λ p x. new ≡ old ++ function_in s p x)
  no_function at same defs expand rules answers here =
      let x = lowered_view t in
      let entry : slice_get (own_program defs rules).terms x.term ≡ None =
      ap (λ ts. slice_get ts t.id.0) (terms_are w l envs terms defs expand rules answers) ∙ slice_get-map term_view w.program.terms.now t.id.0 ∙ ap (option_map term_view) at in
      same ∙ sym (append-nil old) ∙ ap (λ o. old ++ function_or_nothing s (own_program defs rules) x o) (sym entry)

-- 4. one function behind another
view_there : (ts : List Code.LoweredTerm) (i : ℕ) (t : Code.LoweredTerm) → i < length ts → t ≡ get_or ts i t → Contains (lowered_views ts) (lowered_view t)
view_there ts i t h e = contains_from_in (lowered_views ts) (lowered_view t) (map_in lowered_view ts t (subst (In ts) (sym e) (in_from_contains ts (get_or ts i t) (Contains-get_or ts i t h))))

module _ (l : Lowered) (s : TextSetting) (base : List ℕ) where
  -- the functions of so many terms
  abbrev pub FunctionsUpTo : ℕ → List ℕ → Type 0
  FunctionsUpTo i text = OfAnswer l (λ p. text ≡ base ++ functions_in s p (lowered_views (take i l.terms.items)))

  pub functions_more : (i : ℕ) (t : Code.LoweredTerm) (old new : List ℕ) → i < length l.terms.items → t ≡ get_or l.terms.items i t → FunctionsUpTo i old
      → OfLowered l t (λ p x. new ≡ old ++ function_in s p x) → FunctionsUpTo (i + 1) new
  functions_more i t old new h e is more defs expand rules answers =
      let p = own_program defs rules in
      let done = lowered_views (take i l.terms.items) in
      let next : lowered_views (take (i + 1) l.terms.items) ≡ done ++ lowered_view t ∷ [] =
      ap lowered_views (take_more l.terms.items i t h) ∙ map-append lowered_view (take i l.terms.items) (get_or l.terms.items i t ∷ []) ∙ ap (λ y. done ++ lowered_view y ∷ []) (sym e) in
      let here : Contains (lowered_views l.terms.items) (lowered_view t) = view_there l.terms.items i t h e in
      more defs expand rules answers here
      ∙ ap (λ y. y ++ function_in s p (lowered_view t)) (is defs expand rules answers)
      ∙ append_assoc base (functions_in s p done) (function_in s p (lowered_view t))
      ∙ ap (λ y. base ++ y) (sym (ap (functions_in s p) next ∙ flat_map-append (function_in s p) done (lowered_view t ∷ []) ∙ ap (λ y. functions_in s p done ++ y) (append-nil (function_in s p (lowered_view t)))))

  pub functions_all : (i : ℕ) (text : List ℕ) → length l.terms.items ≤ i → FunctionsUpTo i text → OfAnswer l (λ p. text ≡ base ++ functions_in s p (lowered_views l.terms.items))
  functions_all i text h is defs expand rules answers =
      is defs expand rules answers ∙ ap (λ ts. base ++ functions_in s (own_program defs rules) (lowered_views ts)) (take_all i l.terms.items h)
