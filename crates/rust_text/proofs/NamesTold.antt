-- The names of accepted definitions tell what they name.
use Rattle.std.proofs.Common.{◌≡◌, ◌+◌, ◌++◌, ◌<◌, ◌∷◌, [], ℕ, zero, suc, Bool, true, false, cond, List, Some, IsUtf8, String, length, map, slice_get, string_bytes, ap, ◌∙◌, sym, subst, inl, inr, arith}
use Rattle.std.specs.Prelude.{is_some}
use Rattle.std.specs.List.{range_with_len}
use Rattle.std.proofs.lemmas.List.FromFn.{get_or-range_with_len, length-range_with_len}
use Rattle.std.proofs.lemmas.Option.{get_or_from_slice_get, slice_get_within}
use Rattle.std.proofs.lemmas.Str.{IsUtf8-nil, IsUtf8-string_bytes}
use Rattle.model.specs.lists.Signatures.{text_of}
use Rattle.model.specs.lists.Syntax.{Definition, RuleTree}
use Rattle.model.specs.lists.Elaborated.{RulesElaborate, TypedRules, named, typed_rules}
use Rattle.model.specs.lists.KnownTypes.{types_of}
use Rattle.model.specs.lists.Setting.{Setting}
use Rattle.model.specs.lists.TermTable.{rule_trees, term_names_met}
use Rattle.model.specs.claims.Environments.{setting_of, types_read}
use Rattle.model.specs.claims.Layers.{LoweringAnswers}
use Rattle.model.specs.trees.Places.{is_in}
use Rattle.model.proofs.Elements.{In, from_flat_map, in_from_contains, slice_in, some_is}
use Rattle.model.proofs.Mapped.{mapped_some}
use Rattle.model.proofs.Members.{get_within, member_found}
use Rattle.model.proofs.Positions.{get_front}
use Rattle.laws_typing.specs.TableLaws.{TermsHaveNames, TypesStandAtIds}
use Rattle.laws_typing.specs.TypingLaws.{ListsAgree}
use Rattle.laws_typing.specs.TypingResults.{NamesStayInLists}
use Rattle.core_types.specs.declared.type_env.TypeEnv.{TypeEnv}
use Rattle.core_types.specs.Envs.{constant_at, names_of}
use Rattle.core_types.specs.EnvViews.{environment_view}
use Rattle.core_rules.specs.ShownEnvs.{environment_shown_by}
use Rattle.rust_items.specs.ProgramViews.{constant_or_none, constants_of}
use Rattle.cranelift_isle.specs.declared.lower.Lowered.{Lowered}
use Rattle.cranelift_isle.specs.Lowerings.{lowered_views}
use Rattle.rust_text.specs.NamesTold.{NamesOfAnswersTell}
use Rattle.rust_text.specs.OneReading.{IsSettingOf}
use Rattle.rust_text.specs.ProgramNames.{NameSetting}
use Rattle.rust_text.specs.ProgramTokens.{NamesTell}
use Rattle.rust_text.specs.WholeCode.{named_of}
use Rattle.rust_text.proofs.TableNames.{AreNamesOf, told, types_told_so, integers_told_so, variants_told_so, fields_told_so, terms_told_so, outside_told_so}

texts_utf8 : {Z : Type 0} (texts : List (String Z)) (k : ℕ) → IsUtf8 (text_of (map string_bytes texts) k)
texts_utf8 [] k = IsUtf8-nil
texts_utf8 (x ∷ xs) zero = IsUtf8-string_bytes x
texts_utf8 (x ∷ xs) (suc k) = texts_utf8 xs k

-- constants have numbers of names
range_below : (n c : ℕ) → In (range_with_len 0 n) c → c < n
range_below n c i =
    let r = slice_in (range_with_len 0 n) c i in
    let below = slice_get_within (range_with_len 0 n) r.0 c r.1 in
    let same = length-range_with_len 0 n in
    let at : r.0 < n = omega (arith, below, same) in
    let it = sym (get_or_from_slice_get (range_with_len 0 n) r.0 c c r.1) ∙ get_or-range_with_len 0 n r.0 c at in
    omega (arith, at, it)

constant_below : (env : TypeEnv) (c : ℕ) → is_in c (constants_of env) ≡ true → c < length (names_of env)
constant_below env c h =
    let r = from_flat_map (constant_or_none env) (range_with_len 0 (length (names_of env))) c (in_from_contains (constants_of env) c (member_found c (constants_of env) h)) in
    by r.0 (is_some (constant_at env r.0)) (range_below (length (names_of env)) r.0 r.1) r.2
  where
    by : (k : ℕ) (b : Bool) → k < length (names_of env) → In (cond b (k ∷ []) []) c → c < length (names_of env)
    by k true l (inl e) = subst (λ m. m < length (names_of env)) e l
    by k true l (inr i) = absurd i
    by k false l i = absurd i

module _ (agree : ListsAgree) (stay : NamesStayInLists) (stand : TypesStandAtIds) (have : TermsHaveNames) where
  -- names that rules meet come behind those that were met before
  further : (e : Setting) (trees : List RuleTree) (before : List (List ℕ)) (rules : TypedRules) → RulesElaborate e trees before rules → (more : List (List ℕ)) × (rules.names ≡ before ++ more)
  further e trees before rules r =
      let k = mapped_some (named e) (typed_rules e 0 trees before) rules r.typed in
      let g = (stay e 0 trees before k.0.rules k.0.names ((agree e 0 trees before k.0.rules k.0.names).1 k.1)).0 in
      (g.0, sym (ap (λ (x : TypedRules). x.names) k.2) ∙ g.1)

  module _ (l : Lowered) (defs : List Definition) (expand : Bool) (rules : TypedRules)
      (answers : LoweringAnswers defs expand (environment_view l.tyenv) (environment_shown_by l.termenv) rules (lowered_views l.terms.items)) (s : NameSetting) (of : IsSettingOf (named_of l) s) where
    at_name : (k : ℕ) (x : List ℕ) → slice_get s.names k ≡ Some x → slice_get (names_of l.tyenv) k ≡ Some x
    at_name k x e = ap (λ ns. slice_get ns k) (sym of.names) ∙ e

    are_names : AreNamesOf defs s
    are_names =
        let shown = answers.environments.types in
        let met : List (List ℕ) = term_names_met (types_of defs) defs in
        let more = further (setting_of (types_read defs) defs expand) (rule_trees defs) met rules answers.accepted.read.elaborated.elaborate in
        record {
          valid = answers.accepted.read.types;
          valid_terms = answers.accepted.read.elaborated.terms;
          once = λ j k x a b. some_is j k (sym (shown.inverse.numbered x j (at_name j x a)) ∙ shown.inverse.numbered x k (at_name k x b));
          kept = λ n x e. ap (λ ns. slice_get ns n) (of.names ∙ shown.names ∙ more.1) ∙ get_front met more.0 n x e;
          types = of.types ∙ shown.types;
          terms = of.terms ∙ answers.environments.rows.table;
        }

    constant_read : (c : ℕ) → is_in c (named_of l).constants ≡ true → (x : List ℕ) × (slice_get s.names c ≡ Some x)
    constant_read c i = let x = get_within (names_of l.tyenv) c (constant_below l.tyenv c i) in (x.0, ap (λ ns. slice_get ns c) of.names ∙ x.1)

    names_tell : NamesTell s (named_of l).constants (named_of l).with_rules
    names_tell = record {
      utf8 = subst (λ ns. (k : ℕ) → IsUtf8 (text_of ns k)) (sym of.names) (texts_utf8 l.tyenv.syms.items);
      constants_told = λ c d i j e. let x = constant_read c i in let y = constant_read d j in told stand have defs s are_names c d x.0 y.0 x.1 y.1 e;
      types_told = types_told_so stand have defs s are_names;
      integers_told = integers_told_so stand have defs s are_names;
      variants_told = variants_told_so stand have defs s are_names;
      fields_told = fields_told_so stand have defs s are_names;
      outside_told = outside_told_so stand have defs s are_names;
      terms_told = λ t u a b i j f g e. terms_told_so stand have defs s are_names t u a b f g e;
    }

  pub names_of_answers_tell_by : NamesOfAnswersTell
  names_of_answers_tell_by l defs expand rules answers s of = names_tell l defs expand rules answers s of
