-- What is read of one text goes together: a list that is passed over is a definition without a place, and a tree with its number.
use Rattle.std.proofs.Common.{◌≡◌, ◌≢◌, ℕ, suc, refl, ap, subst, List, [], ◌∷◌, ◌++◌, map, arith}
use Rattle.std.specs.Prelude.{Bool, true, false, Option, Some, None, Result, Ok, Err, codes, if◌then◌else◌}
use Rattle.std.proofs.lemmas.List.{map-append}
use Rattle.std.proofs.lemmas.Grind.{common_steps}
use Rattle.model.proofs.Bytes.{same_bytes}
use Rattle.model.specs.lists.Syntax.{Position, Name, Definition}
use Rattle.core_syntax.specs.SyntaxViews.{definition_place}
use Rattle.text_reader.specs.Lexemes.{Wrong, ◌>>=◌}
use Rattle.text_reader.specs.FormTrees.{FormTree, FormTrees, no_form, form_and, a_word, a_list}
use Rattle.text_reader.specs.PassedOver.{is_passed_over, passes_over}
use Rattle.text_reader.specs.declared.errors.Mistake.TheVariants as M
use Rattle.text_reader.specs.ExprGrammar.{expr_of}
use Rattle.text_reader.specs.PatternGrammar.{pattern_of}
use Rattle.text_reader.specs.Grammar.{Listed, listed, reads, ended, list_of, name_of, names_of, next_if_of, next_name_of, next_of}
use Rattle.text_reader.specs.TypeGrammar.{type_definition_of, type_value_of}
use Rattle.text_reader.specs.TermGrammar.{declared_of, last_three, extractor_of, conversion_of, external_by, external_constructor_of, external_extractor_of, external_constant_of, constant_of, flags_of, infallible_of, no_flags}
use Rattle.text_reader.specs.RuleGrammar.{rule_of, parted_of, priority_of, rule_name_of, statements_of}
use Rattle.text_reader.specs.Definitions.{defined_by, definition_of, definitions_of, reading}
use Rattle.text_reader.specs.SpecTrees.{VerificationTree}
use Rattle.text_reader.specs.Verifying.{numbered, said_of, said_from, verification_in, verification_of}
use Rattle.text_writer.specs.Woven.{unmatched, Trees, left_behind, woven, number_by, other_numbers, AreMatched}

-- ---- steps of the grammar

abbrev fine : {A : Type 0} → A → Result A Wrong
fine x = Ok x

stepped : {A B : Type 0} (P : B → Type 0) (r : Result A Wrong) (f : A → Result B Wrong) → ((x : A) (y : B) → f x ≡ Ok y → P y) → (y : B) → (r >>= f) ≡ Ok y → P y
stepped P r f h y e = grind (arith, common_steps)

-- one of two
chosen : {B : Type 0} (P : B → Type 0) (b : Bool) (x y : Result B Wrong) → (b ≡ true → (z : B) → x ≡ Ok z → P z) → (b ≡ false → (z : B) → y ≡ Ok z → P z)
    → (z : B) → (if b then x else y) ≡ Ok z → P z
chosen P b x y h k z e = grind (arith, common_steps)

-- what a step was made of
parts : {A B : Type 0} (r : Result A Wrong) (f : A → Result B Wrong) (y : B) → (r >>= f) ≡ Ok y → (x : A) × (r ≡ Ok x) × (f x ≡ Ok y)
parts r f y e = grind (arith, common_steps)

-- ---- definitions with a place

abbrev HasPlace : Definition → Type 0
HasPlace d = (p : Position) × (definition_place d ≡ Some p)

placed : (d : Definition) → HasPlace d → (y : Definition) → fine d ≡ Ok y → HasPlace y
placed d h y e = subst HasPlace (cc e) h

type_placed : (l : Listed) (d : Definition) → type_definition_of l ≡ Ok d → HasPlace d
type_placed l =
    stepped HasPlace (next_name_of l) _ (λ name.
    stepped HasPlace (next_of M.TypeValue (next_if_of (codes "nodebug") (next_if_of (codes "extern") name.1).1).1) _ (λ value.
    stepped HasPlace (type_value_of value.0) _ (λ v. stepped HasPlace (ended value.1.parts) _ (λ end. placed _ (l.at, refl)))))

declared_placed : (at : Position) (s : Option (FormTrees × FormTree × FormTree × FormTree)) (d : Definition) → declared_of at s ≡ Ok d → HasPlace d
declared_placed at None d e = absurd (cc e)
declared_placed at (Some s) d e =
    stepped HasPlace (flags_of no_flags s.0) _ (λ flags. stepped HasPlace (list_of M.Names s.2) _ (λ args.
    stepped HasPlace (name_of s.1) _ (λ term. stepped HasPlace (names_of args.parts) _ (λ arg_tys.
    stepped HasPlace (name_of s.3) _ (λ ret_ty. placed _ (at, refl)))))) d e

extractor_placed : (l : Listed) (d : Definition) → extractor_of l ≡ Ok d → HasPlace d
extractor_placed l =
    stepped HasPlace (next_of M.Names l) _ (λ use_of. stepped HasPlace (list_of M.Names use_of.0) _ (λ used.
    stepped HasPlace (next_name_of used) _ (λ term. stepped HasPlace (next_of M.Pattern use_of.1) _ (λ template.
    stepped HasPlace (names_of term.1.parts) _ (λ args. stepped HasPlace (pattern_of template.0) _ (λ pattern.
    stepped HasPlace (ended template.1.parts) _ (λ end. placed _ (l.at, refl))))))))

conversion_placed : (l : Listed) (d : Definition) → conversion_of l ≡ Ok d → HasPlace d
conversion_placed l =
    stepped HasPlace (next_name_of l) _ (λ inner. stepped HasPlace (next_name_of inner.1) _ (λ outer.
    stepped HasPlace (next_name_of outer.1) _ (λ term. stepped HasPlace (ended term.1.parts) _ (λ end. placed _ (l.at, refl)))))

constructor_placed : (l : Listed) (d : Definition) → external_constructor_of l ≡ Ok d → HasPlace d
constructor_placed l =
    stepped HasPlace (next_name_of l) _ (λ term. stepped HasPlace (next_name_of term.1) _ (λ func.
    stepped HasPlace (ended func.1.parts) _ (λ end. placed _ (l.at, refl))))

external_extractor_placed : (l : Listed) (d : Definition) → external_extractor_of l ≡ Ok d → HasPlace d
external_extractor_placed l =
    stepped HasPlace (next_name_of (infallible_of l).1) _ (λ term. stepped HasPlace (next_name_of term.1) _ (λ func.
    stepped HasPlace (ended func.1.parts) _ (λ end. placed _ (l.at, refl))))

constant_placed : (l : Listed) (d : Definition) → external_constant_of l ≡ Ok d → HasPlace d
constant_placed l =
    stepped HasPlace (next_of M.Constant l) _ (λ constant. stepped HasPlace (constant_of constant.0) _ (λ name.
    stepped HasPlace (next_name_of constant.1) _ (λ ty. stepped HasPlace (ended ty.1.parts) _ (λ end. placed _ (l.at, refl)))))

external_placed : (f : FormTree) (l : Listed) (d : Definition) → external_by f l ≡ Ok d → HasPlace d
external_placed f l = grind (arith, common_steps, chosen, constructor_placed, external_extractor_placed, constant_placed)

rule_placed : (l : Listed) (d : Definition) → rule_of l ≡ Ok d → HasPlace d
rule_placed l =
    stepped HasPlace (priority_of (rule_name_of l).1) _ (λ prio. stepped HasPlace (next_of M.Pattern prio.1) _ (λ root.
    stepped HasPlace (parted_of l.ends root.1.parts) _ (λ body. stepped HasPlace (pattern_of root.0) _ (λ pattern.
    stepped HasPlace (statements_of body.0) _ (λ iflets. stepped HasPlace (expr_of body.1) _ (λ x. placed _ (l.at, refl)))))))

-- ---- a definition has no place exactly where its list is passed over

abbrev Agrees : Bool → Definition → Type 0
Agrees true d = definition_place d ≡ None
Agrees false d = HasPlace d

-- a list that begins with another word
by_word : (head : Name) (word : List ℕ) (r : Result Definition Wrong) → passes_over word ≡ false → ((d : Definition) → r ≡ Ok d → HasPlace d)
    → reads head word ≡ true → (d : Definition) → r ≡ Ok d → Agrees (passes_over head.text) d
by_word head word r other h is d e = grind (arith, common_steps, same_bytes head.text word is)

defined_agrees : (head : Name) (l : Listed) (d : Definition) → defined_by head l ≡ Ok d → Agrees (passes_over head.text) d
defined_agrees head l =
    let P = Agrees (passes_over head.text) in
    chosen P (reads head (codes "type")) _ _ (by_word head (codes "type") _ refl (type_placed l))
    (λ _. chosen P (reads head (codes "decl")) _ _ (by_word head (codes "decl") _ refl (declared_placed l.at (last_three l.parts)))
    (λ _. chosen P (reads head (codes "rule")) _ _ (by_word head (codes "rule") _ refl (rule_placed l))
    (λ _. chosen P (reads head (codes "extractor")) _ _ (by_word head (codes "extractor") _ refl (extractor_placed l))
    (λ _. chosen P (reads head (codes "extern")) _ _ (by_word head (codes "extern") _ refl (stepped HasPlace (next_of M.Extern l) _ (λ kind. external_placed kind.0 kind.1)))
    (λ _. grind (arith, common_steps, chosen, by_word, conversion_placed))))))

form_agrees : (f : FormTree) (d : Definition) → definition_of f ≡ Ok d → Agrees (is_passed_over f) d
form_agrees (a_list (form_and (a_word n) fs) p end) d e = defined_agrees n (listed fs p end) d e
form_agrees _ d e = absurd (cc e)

-- ---- numbers

abbrev numbers : Trees → List ℕ
numbers vs = map (λ v. v.0) vs

said_agrees : (b : Bool) (r : Result VerificationTree Wrong) (v : Option VerificationTree) → (if b then (r >>= (λ w. Ok (Some w))) else Ok None) ≡ Ok v
    → (n : ℕ) (d : Definition) → Agrees b d → numbers (numbered n v) ≡ number_by (definition_place d) n
said_agrees b r v e n d none = grind (arith, common_steps)

same : {A : Type 0} (x y : A) → fine x ≡ Ok y → x ≡ y
same x y e = cc e

all_matched : (fs : FormTrees) (n : ℕ) (ds : List Definition) (vs : Trees) → definitions_of fs ≡ Ok ds → said_from n fs ≡ Ok vs → AreMatched n ds vs
all_matched no_form n ds vs e g = subst (λ xs. numbers xs ≡ other_numbers n ds) (same [] vs g) (ap (other_numbers n) (same [] ds e))
all_matched (form_and f fs) n ds vs e g =
    let a = parts (definition_of f) _ ds e in
    let b = parts (definitions_of fs) _ ds a.2 in
    let c = parts (said_of f) _ vs g in
    let k = parts (said_from (suc n) fs) _ vs c.2 in
    let one = said_agrees (is_passed_over f) (verification_of f) c.0 c.1 n a.0 (form_agrees f a.0 a.1) in
    let more = all_matched fs (suc n) b.0 k.0 b.1 k.1 in
    subst (λ xs. numbers xs ≡ other_numbers n ds) (same (numbered n c.0 ++ k.0) vs k.2)
    (grind (arith, common_steps, both one more, same (a.0 ∷ b.0) ds b.2, map-append (λ v. v.0) (numbered n c.0) k.0))
  where
    both : {xs ys xs' ys' : List ℕ} → xs ≡ xs' → ys ≡ ys' → xs ++ ys ≡ xs' ++ ys'
    both e f = rw (e, f) refl

pub text_matched : (file : ℕ) (text : List ℕ) (ds : List Definition) (vs : Trees) → reading file text ≡ Ok ds → verification_in file text ≡ Ok vs → AreMatched 0 ds vs
text_matched file text ds vs e g = grind (arith, all_matched)

-- ---- what goes together is woven, if it can be spelled

pub never_unmatched : (n : ℕ) (ds : List Definition) (vs : Trees) (k : ℕ) → AreMatched n ds vs → woven n ds vs ≢ Err (unmatched k)
never_unmatched n (d ∷ ds) vs k h = grind (arith, common_steps, never_unmatched (suc n) ds (left_behind d vs) k)
never_unmatched n ds vs k h = grind arith
