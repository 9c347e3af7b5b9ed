-- What tokens, forms and definitions are behind others.
use Rattle.std.proofs.Common.{◌≡◌, ℕ, ◌+◌, Bool, List, [], ◌∷◌, ◌++◌, length, refl, sym, ap, ◌∙◌, append_assoc, arith}
use Rattle.std.specs.Prelude.{Result, Ok, Option, Some, option_map, nat_le, if◌then◌else◌}
use Rattle.std.proofs.lemmas.Grind.{common_steps}
use Rattle.model.specs.lists.Syntax.{Position, Name, Definition}
use Rattle.text_reader.specs.declared.errors.Mistake.TheVariants as M
use Rattle.text_reader.specs.Lexemes.{Lexeme, begin_list, end_list, word, dash, binder, number, constant, Wrong, ◌>>=◌, word_token, last_bound, or_mistake}
use Rattle.text_reader.specs.Pieces.{Piece, left, right, bind, name, sign, endless, alone, spelling, size}
use Rattle.text_reader.specs.Lexing.{Tokens, added, tokens_after}
use Rattle.text_reader.specs.FormTrees.{FormTree, a_word, a_number, a_constant, a_binding, a_list, FormTrees, no_form, form_and}
use Rattle.text_reader.specs.Grammar.{no}
use Rattle.text_reader.specs.Forming.{Begun, a_group, a_binder, FormsSoFar, behind, put, passes, formed, forms_from, forms_of}
use Rattle.text_reader.specs.Definitions.{definitions_of}
use Rattle.text_reader.proofs.Dividing.{at}
use Rattle.text_reader.proofs.Mistakes.{both_give}

-- what is given, without a mistake
abbrev pub Given : {A : Type 0} → A → Result A Wrong
Given x = Ok x

pub same : {A : Type 0} (x y : A) → Given x ≡ Ok y → x ≡ y
same x y e = cc e

-- ---- tokens

last_behind : (pre d ts : Tokens) → last_bound d ≡ Some ts → last_bound (pre ++ d) ≡ Some (pre ++ ts)
last_behind (t ∷ s ∷ pre) d ts e = ap (option_map (λ xs. t ∷ xs)) (last_behind (s ∷ pre) d ts e)
last_behind pre d ts e = grind (arith, common_steps)

bound_behind : (p : Position) (pre d ts : Tokens) (r : Option Tokens) → last_bound d ≡ r → or_mistake p r ≡ Ok ts → or_mistake p (last_bound (pre ++ d)) ≡ Ok (pre ++ ts)
bound_behind p pre d ts r h e = grind (arith, common_steps, last_behind, same)

one_behind : (pre d ts : Tokens) (t : Lexeme) → Given (d ++ t ∷ []) ≡ Ok ts → Given ((pre ++ d) ++ t ∷ []) ≡ Ok (pre ++ ts)
one_behind pre d ts t e = ap Ok (append_assoc pre d (t ∷ [])) ∙ ap (λ x. Ok (pre ++ x)) (same _ ts e)

added_behind : (q : Piece) (p : Position) (pre d ts : Tokens) → added q p d ≡ Ok ts → added q p (pre ++ d) ≡ Ok (pre ++ ts)
added_behind left p pre d ts e = one_behind pre d ts (begin_list p) e
added_behind right p pre d ts e = one_behind pre d ts (end_list p) e
added_behind bind p pre d ts e = bound_behind p pre d ts (last_bound d) refl e
added_behind (name cs) p pre d ts e =
    let h = both_give (word_token _) (λ t. Ok (d ++ t ∷ [])) ts e in
    ap (λ r. r >>= (λ t. Ok ((pre ++ d) ++ t ∷ []))) h.1 ∙ one_behind pre d ts h.0 h.2
added_behind (sign cs) p pre d ts e = one_behind pre d ts _ e
added_behind (endless cs) p pre d ts e = absurd (cc e)
added_behind alone p pre d ts e = absurd (cc e)
added_behind _ p pre d ts e = ap (λ x. Ok (pre ++ x)) (same d ts e)

pub tokens_behind : (file o : ℕ) (ps : List Piece) (pre d ts : Tokens) → tokens_after file o ps d ≡ Ok ts → tokens_after file o ps (pre ++ d) ≡ Ok (pre ++ ts)
tokens_behind file o [] pre d ts e = ap (λ x. Ok (pre ++ x)) (same d ts e)
tokens_behind file o (q ∷ ps) pre d ts e =
    let next = tokens_after file (o + size (spelling q)) ps in
    let h = both_give (added q (at file o) d) next ts e in
    ap (λ r. r >>= next) (added_behind q (at file o) pre d h.0 h.1) ∙ tokens_behind file (o + size (spelling q)) ps pre h.0 ts h.2

-- ---- forms

abbrev pub together : FormTrees → FormTrees → FormTrees
together no_form gs = gs
together (form_and f fs) gs = form_and f (together fs gs)

together_none : (fs : FormTrees) → together fs no_form ≡ fs
together_none no_form = refl
together_none (form_and f fs) = ap (form_and f) (together_none fs)

behind_together : (gs fs : FormTrees) (f : FormTree) → behind (together gs fs) f ≡ together gs (behind fs f)
behind_together no_form fs f = refl
behind_together (form_and g gs) fs f = ap (form_and g) (behind_together gs fs f)

abbrev under : FormTrees → FormsSoFar → FormsSoFar
under gs s = (together gs s.0, s.1)

put_behind : (f : FormTree) (gs fs : FormTrees) (os : List Begun) → put f (together gs fs) os ≡ under gs (put f fs os)
put_behind f gs fs [] = ap (λ x. (x, [])) (behind_together gs fs f)
put_behind f gs fs (a_binder n ∷ os) = put_behind (a_binding n f) gs fs os
put_behind f gs fs (a_group hs p ∷ os) = refl

whole_put : (f : FormTree) (gs fs : FormTrees) (os : List Begun) (s : FormsSoFar) → Given (put f fs os) ≡ Ok s → Given (put f (together gs fs) os) ≡ Ok (under gs s)
whole_put f gs fs os s e = ap Ok (put_behind f gs fs os) ∙ ap (λ x. Ok (under gs x)) (same _ s e)

started_behind : (b : Bool) (o : Begun) (p : Position) (gs fs : FormTrees) (os : List Begun) (s : FormsSoFar)
    → (if b then no {A = FormsSoFar} M.Depth p else Ok (fs, o ∷ os)) ≡ Ok s → (if b then no {A = FormsSoFar} M.Depth p else Ok (together gs fs, o ∷ os)) ≡ Ok (under gs s)
started_behind b o p gs fs os s e = grind (arith, common_steps, same)

dashed_behind : (b : Bool) (n : Name) (gs fs : FormTrees) (os : List Begun) (s : FormsSoFar)
    → (if b then Ok (put (a_word n) fs os) else no {A = FormsSoFar} M.Digits n.at) ≡ Ok s → (if b then Ok (put (a_word n) (together gs fs) os) else no {A = FormsSoFar} M.Digits n.at) ≡ Ok (under gs s)
dashed_behind b n gs fs os s e = grind (arith, common_steps, whole_put)

formed_behind : (t : Lexeme) (gs fs : FormTrees) (os : List Begun) (s : FormsSoFar) → formed t fs os ≡ Ok s → formed t (together gs fs) os ≡ Ok (under gs s)
formed_behind (begin_list p) gs fs os s e = started_behind (nat_le 1000 (length os)) (a_group no_form p) p gs fs os s e
formed_behind (end_list p) gs fs (a_group hs q ∷ os) s e = whole_put (a_list hs q p) gs fs os s e
formed_behind (word n) gs fs os s e = whole_put (a_word n) gs fs os s e
formed_behind (dash n) gs fs os s e = dashed_behind (passes os) n gs fs os s e
formed_behind (binder n) gs fs os s e = started_behind (nat_le 1000 (length os)) (a_binder n) n.at gs fs os s e
formed_behind (number z p) gs fs os s e = whole_put (a_number z p) gs fs os s e
formed_behind (constant n p) gs fs os s e = whole_put (a_constant n p) gs fs os s e
formed_behind _ gs fs _ s e = absurd (cc e)

forms_behind : (file end : ℕ) (ts : Tokens) (gs fs : FormTrees) (os : List Begun) (hs : FormTrees) → forms_from file end ts fs os ≡ Ok hs → forms_from file end ts (together gs fs) os ≡ Ok (together gs hs)
forms_behind file end (t ∷ ts) gs fs os hs e =
    let next = λ (s : FormsSoFar). forms_from file end ts s.0 s.1 in
    let h = both_give (formed t fs os) next hs e in
    ap (λ r. r >>= next) (formed_behind t gs fs os h.0 h.1) ∙ forms_behind file end ts gs h.0.0 h.0.1 hs h.2
forms_behind file end ts gs fs os hs e = grind (arith, common_steps, same)

-- tokens whose lists are ended, and then others
forms_joined : (file end next : ℕ) (ts us : Tokens) (fs : FormTrees) (os : List Begun) (gs : FormTrees) → forms_from file end ts fs os ≡ Ok gs → forms_from file next (ts ++ us) fs os ≡ forms_from file next us gs []
forms_joined file end next (t ∷ ts) us fs os gs e =
    let h = both_give (formed t fs os) (λ s. forms_from file end ts s.0 s.1) gs e in
    ap (λ r. r >>= (λ s. forms_from file next (ts ++ us) s.0 s.1)) h.1 ∙ forms_joined file end next ts us h.0.0 h.0.1 gs h.2
forms_joined file end next ts us fs os gs e = grind (arith, common_steps, same)

pub forms_together : (file end next : ℕ) (ts us : Tokens) (fs gs : FormTrees) → forms_of file end ts ≡ Ok fs → forms_of file next us ≡ Ok gs → forms_of file next (ts ++ us) ≡ Ok (together fs gs)
forms_together file end next ts us fs gs a b =
    forms_joined file end next ts us no_form [] fs a
    ∙ ap (λ x. forms_from file next us x []) (sym (together_none fs))
    ∙ forms_behind file next us fs no_form [] gs b

-- ---- definitions

pub definitions_together : (fs gs : FormTrees) (ds es : List Definition) → definitions_of fs ≡ Ok ds → definitions_of gs ≡ Ok es → definitions_of (together fs gs) ≡ Ok (ds ++ es)
definitions_together no_form gs ds es a b = b ∙ ap (λ x. Ok (x ++ es)) (same [] ds a)
definitions_together (form_and f fs) gs ds es a b = grind (arith, common_steps, definitions_together fs gs, both_give, same)
