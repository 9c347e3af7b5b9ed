-- Each term with rules has its function in the code.
use Rattle.std.proofs.Common.{◌≡◌, ◌∙◌, ◌∷◌, [], ℕ, zero, suc, ◌+◌, ◌<◌, ◌≤◌, Bool, true, false, not, if◌then◌else◌, List, Option, Some, None, length, map, slice_get, refl, sym, ap, subst, arith, inl, inr}
use Rattle.std.specs.Prelude.{All}
use Rattle.std.specs.List.{flat_map}
use Rattle.std.proofs.lemmas.List.Elements.{All-contains}
use Rattle.model.specs.lists.Signatures.{constructor_gives, gives_one, gives_one_or_none, gives_any_number}
use Rattle.model.specs.lists.Syntax.{Definition}
use Rattle.model.specs.lists.Tables.{TermEntry}
use Rattle.model.specs.lists.Elaborated.{TypedRules}
use Rattle.model.specs.rules.Program.{Program, flags_of, kind, kind_of, numbers_from, terms_with_rules, unknown}
use Rattle.model.specs.claims.Layers.{own_program, IsAccepted, IsLoweredTerm, LoweredTerm}
use Rattle.model.proofs.Elements.{In, contains_from_in, in_filter, in_right, map_in}
use Rattle.model_code.specs.Notation.{ReturnForm}
use Rattle.model_code.specs.Pieces.{ends_function}
use Rattle.model_code.specs.ProgramNotation.{notation_of}
use Rattle.model_code.specs.PureAlike.{is_impure_number}
use Rattle.model_code.specs.Spelling.{spelled}
use Rattle.model_code.specs.Written.{function_body}
use Rattle.laws_code.specs.CalledAlike.{AreCalledAlike, PureFunctionsCallAlike}
use Rattle.laws_code.specs.TextRuns.{SaysItsSource, TextOfAcceptedSaysItsSource, kind_given, kind_of_giving}
use Rattle.rust_code.specs.CodeOf.{code_in_program}
use Rattle.rust_code.specs.Labels.{is_deep}
use Rattle.rust_items.specs.Claims.{IsWellNamed}
use Rattle.rust_items.specs.NamedPrograms.{NamedProgram, constants_kind, functions_kind, kinds, kinds_inside, paths_kind, terms_kind}
use Rattle.rust_items.specs.NameLaws.{FunctionsApartArePureAlike}
use Rattle.cranelift_isle.specs.Lowerings.{lowered_views}
use Rattle.rust_text.specs.CodeOfTerms.{AreFunctionsOf, EachTermIsInItsCode, IsFunctionOf}
use Rattle.rust_text.specs.Fronts.{FrontsAreClosed}
use Rattle.rust_text.specs.ProgramNames.{NameSetting, names_of}
use Rattle.rust_text.specs.WholeCode.{front_written, named_of}
use Rattle.rust_text.specs.WholeNames.{NamesAreWhole}
use Rattle.rust_text.specs.WrittenFunctions.{TextSetting, body_of_entry, function_in, function_of_entry, function_or_nothing, functions_in, kind_of_entry, setting_of_entry}

-- a term with rules is in the table of terms
numbers_below : {X : Type 0} (n k : ℕ) (xs : List X) → In (numbers_from n xs) k → (n ≤ k) × (k < n + length xs)
numbers_below n k [] i = absurd i
numbers_below n k (x ∷ xs) (inl e) = (omega (arith, e), omega (arith, e))
numbers_below n k (x ∷ xs) (inr i) = let h = numbers_below (suc n) k xs i in let a = h.0 in let b = h.1 in (omega (arith, a), omega (arith, b))

entry_at : {X : Type 0} (xs : List X) (k : ℕ) → k < length xs → (x : X) × (slice_get xs k ≡ Some x)
entry_at [] k h = absurd (omega (arith, h))
entry_at (x ∷ xs) zero h = (x, refl)
entry_at (x ∷ xs) (suc k) h = entry_at xs k (omega (arith, h))

module _ (p : Program) (t : ℕ) (e : TermEntry) (at : slice_get p.terms t ≡ Some e) where
  kind_same : kind_given p t ≡ kind_of_entry e
  kind_same = ap (λ o. kind_of_giving (constructor_gives (flags_of (elim o [ None ↦ unknown | Some x ↦ kind_of x ])))) at

  written_same : (s : TextSetting) (l : LoweredTerm) → l.term ≡ t → function_in s p l ≡ function_of_entry s p l e
  written_same s l same = ap (function_or_nothing s p l) (ap (slice_get p.terms) same ∙ at)

functions_are_named : (n : NamedProgram) → All IsWellNamed (kinds n) → IsWellNamed (functions_kind n)
functions_are_named n all =
    All-contains IsWellNamed (kinds n) (functions_kind n) all
    (contains_from_in (kinds n) (functions_kind n) (inr (in_right (flat_map (kinds_inside n.names) n.types) (functions_kind n ∷ (constants_kind n ∷ (terms_kind n ∷ (paths_kind n ∷ [])))) (functions_kind n) (inl refl))))

-- results end the function of a term exactly if it isn't multi
giving_ends : (multi partial : Bool) → multi ≡ not (ends_function (kind_of_giving (if multi then gives_any_number else (if partial then gives_one_or_none else gives_one))))
giving_ends true partial = refl
giving_ends false true = refl
giving_ends false false = refl

module _ (says : TextOfAcceptedSaysItsSource) (whole : NamesAreWhole) (defs : List Definition) (expand : Bool) (rules : TypedRules) (accepted : IsAccepted defs expand rules) where
  abbrev own : Program
  own = own_program defs rules

  -- the text of a term's function, with what its signature gives
  text_said : (s : NameSetting) (is_logged : Bool) (l : LoweredTerm) → IsLoweredTerm own l
      → SaysItsSource (names_of s) (notation_of own (kind_given own l.term) is_logged) own l.term
      (spelled (names_of s) (function_body (notation_of own (kind_given own l.term) is_logged) (code_in_program own l.term l.set.sites l.tree)))
  text_said s is_logged l it =
      let flags = flags_of (kind own l.term) in
      says defs expand rules l accepted it.built it.best (names_of s) (whole s) (kind_given own l.term) is_logged (giving_ends flags.multi flags.partial) is_deep 0

  function_said : (s : TextSetting) → ((k : ReturnForm) → AreCalledAlike own (notation_of own k s.is_logged) (is_impure_number own)) → (l : LoweredTerm) → IsLoweredTerm own l
      → In (terms_with_rules own) l.term → IsFunctionOf s own l.term (function_in s own l)
  function_said s called l it known =
      let bounds = numbers_below 0 l.term own.terms (in_filter _ (numbers_from 0 own.terms) l.term known) in
      let e = entry_at own.terms l.term (let b = bounds.1 in omega (arith, b)) in record {
        entry = e.0;
        is = e.1;
        body = body_of_entry s own l e.0;
        parts = written_same own l.term e.0 e.1 s l refl;
        says = subst (λ k. SaysItsSource (names_of (setting_of_entry s own e.0)) (notation_of own k s.is_logged) own l.term
            (spelled (names_of (setting_of_entry s own e.0)) (function_body (notation_of own k s.is_logged) (code_in_program own l.term l.set.sites l.tree))))
            (kind_same own l.term e.0 e.1) (text_said (setting_of_entry s own e.0) s.is_logged l it);
        called = called (kind_of_entry e.0);
      }

functions_said : (s : TextSetting) (p : Program) (ls : List LoweredTerm) → ((l : LoweredTerm) → In ls l → IsFunctionOf s p l.term (function_in s p l))
    → AreFunctionsOf s p (map (λ (l : LoweredTerm). l.term) ls) (functions_in s p ls)
functions_said s p [] h = refl
functions_said s p (l ∷ ls) h = (function_in s p l, functions_in s p ls, refl, h l (inl refl), functions_said s p ls (λ x i. h x (inr i)))

pub each_term_is_in_its_code_lem : TextOfAcceptedSaysItsSource → NamesAreWhole → FunctionsApartArePureAlike → PureFunctionsCallAlike → FrontsAreClosed → EachTermIsInItsCode
each_term_is_in_its_code_lem says whole pure called closed l s excluded text code defs expand rules answers =
    let p = own_program defs rules in
    let lowered = lowered_views l.terms.items in
    let alike = pure (named_of l) p (sym answers.environments.rows.table) (functions_are_named (named_of l) code.named) in
    let said : (x : LoweredTerm) → In lowered x → IsFunctionOf s p x.term (function_in s p x) = λ x i.
    function_said says whole defs expand rules answers.accepted s (λ k. called p alike k s.is_logged) x
    (All-contains (IsLoweredTerm p) lowered x answers.trees.lowered (contains_from_in lowered x i))
    (subst (λ ts. In ts x.term) answers.trees.each (map_in (λ (y : LoweredTerm). y.term) lowered x i)) in record {
      front = front_written l s.sources excluded;
      closed = closed l s.sources excluded;
      functions = functions_in s p lowered;
      whole = code.written defs expand rules answers;
      each = subst (λ ts. AreFunctionsOf s p ts (functions_in s p lowered)) answers.trees.each (functions_said s p lowered said);
    }
