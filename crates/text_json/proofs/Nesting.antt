-- Tokens that end an object which they begin are those of a value.
use Rattle.std.proofs.Common.{◌≡◌, ℕ, List, [], ◌∷◌, ◌++◌, fold, reverse, refl, sym, ap, ◌∙◌, subst, append_assoc, append-nil, arith}
use Rattle.std.proofs.lemmas.List.{reverse-append}
use Rattle.std.proofs.lemmas.List.Sums.{fold-append}
use Rattle.json.specs.Token.{Token}
use Rattle.json.specs.Json.{Json, null, boolean, number, string, array, object, Items, no_items, item, Members, no_members, member, value}
use Rattle.json.specs.Lex.{tokens}
use Rattle.json.specs.Print.{print}
use Rattle.json.specs.Tree.{json_tokens, items_tokens, members_tokens}
use Rattle.json.proofs.Printed.Trees.{value-json_tokens}
use Rattle.text_json.specs.declared.Place.{Place}
use Rattle.text_json.specs.declared.Place.TheVariants as P
use Rattle.text_json.specs.JsonLine.{IsJsonLine, IsLineOf}
use Rattle.text_json.specs.Nesting.{nothing, inside, whole, broken, nest, nesting}

-- ---- one more token

pub nesting-more : (ts : List Token) (t : Token) → nesting (ts ++ t ∷ []) ≡ nest (nesting ts) t
unfolding nesting
nesting-more ts t = fold-append nest nothing ts (t ∷ [])

pub reverse-more : (ps : List Place) (p : Place) → reverse (ps ++ p ∷ []) ≡ p ∷ reverse ps
reverse-more ps p = reverse-append ps (p ∷ [])

pub nesting-none : nesting [] ≡ nothing
unfolding nesting
nesting-none = refl

pub ruleset nest_steps = (nesting-none, nesting-more, reverse-more)

-- ---- what may stand from a place up to the end of what is open there

abbrev Rest : Place → Type 0
Rest P.List = Items
Rest P.Object = Members
Rest P.Key = Json × Members

abbrev rest_tokens : (p : Place) → Rest p → List Token
rest_tokens P.List js = items_tokens js
rest_tokens P.Object ms = members_tokens ms
rest_tokens P.Key r = json_tokens r.0 ++ members_tokens r.1

abbrev IsObject : List Token → Type 0
IsObject ts = (ms : Members) × (ts ≡ json_tokens (object ms))

-- whatever ends all that is open behind tokens, an object comes out
abbrev Ends : List Place → List Token → Type 0
Ends [] ts = IsObject ts
Ends (p ∷ outer) ts = (r : Rest p) → Ends outer (ts ++ rest_tokens p r)

same : (outer : List Place) (ts us : List Token) → ts ≡ us → Ends outer ts → Ends outer us
same outer ts us e h = subst (Ends outer) e h

one : (ts us : List Token) (t : Token) → ts ++ (t ∷ us) ≡ (ts ++ (t ∷ [])) ++ us
one ts us t = sym (append_assoc ts (t ∷ []) us)

two : (ts us vs : List Token) (t : Token) → ts ++ ((t ∷ us) ++ vs) ≡ ((ts ++ (t ∷ [])) ++ us) ++ vs
two ts us vs t = one ts (us ++ vs) t ∙ sym (append_assoc (ts ++ (t ∷ [])) us vs)

-- ---- nothing comes behind a token that is out of place, or behind the end

never_whole : (ts : List Token) → fold nest broken ts ≡ whole → ⊥
never_whole [] h = grind (arith, h)
never_whole (t ∷ ts) h = never_whole ts h

at_end : (ts : List Token) → fold nest whole ts ≡ whole → ts ≡ []
at_end [] h = refl
at_end (t ∷ ts) h = absurd (never_whole ts h)

last : (pre ts : List Token) → IsObject pre → fold nest whole ts ≡ whole → IsObject (pre ++ ts)
last pre ts o h = (o.0, ap (λ (us : List Token). pre ++ us) (at_end ts h) ∙ append-nil pre ∙ o.1)

back : (pre ts : List Token) (t : Token) → IsObject ((pre ++ (t ∷ [])) ++ ts) → IsObject (pre ++ (t ∷ ts))
back pre ts t o = (o.0, one pre ts t ∙ o.1)

-- ---- tokens that end what is open

open_whole : (outer : List Place) (p : Place) → inside outer p ≡ whole → ⊥
open_whole outer p h = grind (arith, h)

comes_out : (ts : List Token) (outer : List Place) (p : Place) (pre : List Token) → Ends (p ∷ outer) pre → fold nest (inside outer p) ts ≡ whole → IsObject (pre ++ ts)
comes_out [] outer p pre c h = absurd (open_whole outer p h)
comes_out (Token.string s ∷ ts) outer P.List pre c h =
    back pre ts (Token.string s) (comes_out ts outer P.List (pre ++ (Token.string s ∷ [])) (λ js. same outer _ _ (one pre (items_tokens js) (Token.string s)) (c (item (string s) js))) h)
comes_out (Token.number s ∷ ts) outer P.List pre c h =
    back pre ts (Token.number s) (comes_out ts outer P.List (pre ++ (Token.number s ∷ [])) (λ js. same outer _ _ (one pre (items_tokens js) (Token.number s)) (c (item (number s) js))) h)
comes_out (Token.boolean b ∷ ts) outer P.List pre c h =
    back pre ts (Token.boolean b) (comes_out ts outer P.List (pre ++ (Token.boolean b ∷ [])) (λ js. same outer _ _ (one pre (items_tokens js) (Token.boolean b)) (c (item (boolean b) js))) h)
comes_out (Token.null ∷ ts) outer P.List pre c h =
    back pre ts Token.null (comes_out ts outer P.List (pre ++ (Token.null ∷ [])) (λ js. same outer _ _ (one pre (items_tokens js) Token.null) (c (item null js))) h)
comes_out (Token.begin_array ∷ ts) outer P.List pre c h =
    back pre ts Token.begin_array (comes_out ts (P.List ∷ outer) P.List (pre ++ (Token.begin_array ∷ [])) (λ r js. same outer _ _ (two pre (items_tokens r) (items_tokens js) Token.begin_array) (c (item (array r) js))) h)
comes_out (Token.begin_object ∷ ts) outer P.List pre c h =
    back pre ts Token.begin_object (comes_out ts (P.List ∷ outer) P.Object (pre ++ (Token.begin_object ∷ [])) (λ r js. same outer _ _ (two pre (members_tokens r) (items_tokens js) Token.begin_object) (c (item (object r) js))) h)
comes_out (Token.end_array ∷ ts) [] P.List pre c h = back pre ts Token.end_array (last (pre ++ (Token.end_array ∷ [])) ts (c no_items) h)
comes_out (Token.end_array ∷ ts) (q ∷ outer) P.List pre c h = back pre ts Token.end_array (comes_out ts outer q (pre ++ (Token.end_array ∷ [])) (c no_items) h)
comes_out (Token.end_object ∷ ts) outer P.List pre c h = absurd (never_whole ts h)
comes_out (Token.key s ∷ ts) outer P.List pre c h = absurd (never_whole ts h)
comes_out (Token.bad ∷ ts) outer P.List pre c h = absurd (never_whole ts h)
comes_out (Token.key s ∷ ts) outer P.Object pre c h =
    back pre ts (Token.key s) (comes_out ts outer P.Key (pre ++ (Token.key s ∷ [])) (λ r. same outer _ _ (one pre (json_tokens r.0 ++ members_tokens r.1) (Token.key s)) (c (member s r.0 r.1))) h)
comes_out (Token.end_object ∷ ts) [] P.Object pre c h = back pre ts Token.end_object (last (pre ++ (Token.end_object ∷ [])) ts (c no_members) h)
comes_out (Token.end_object ∷ ts) (q ∷ outer) P.Object pre c h = back pre ts Token.end_object (comes_out ts outer q (pre ++ (Token.end_object ∷ [])) (c no_members) h)
comes_out (Token.begin_object ∷ ts) outer P.Object pre c h = absurd (never_whole ts h)
comes_out (Token.begin_array ∷ ts) outer P.Object pre c h = absurd (never_whole ts h)
comes_out (Token.end_array ∷ ts) outer P.Object pre c h = absurd (never_whole ts h)
comes_out (Token.string s ∷ ts) outer P.Object pre c h = absurd (never_whole ts h)
comes_out (Token.number s ∷ ts) outer P.Object pre c h = absurd (never_whole ts h)
comes_out (Token.boolean b ∷ ts) outer P.Object pre c h = absurd (never_whole ts h)
comes_out (Token.null ∷ ts) outer P.Object pre c h = absurd (never_whole ts h)
comes_out (Token.bad ∷ ts) outer P.Object pre c h = absurd (never_whole ts h)
comes_out (Token.string s ∷ ts) outer P.Key pre c h =
    back pre ts (Token.string s) (comes_out ts outer P.Object (pre ++ (Token.string s ∷ [])) (λ ms. same outer _ _ (one pre (members_tokens ms) (Token.string s)) (c (string s, ms))) h)
comes_out (Token.number s ∷ ts) outer P.Key pre c h =
    back pre ts (Token.number s) (comes_out ts outer P.Object (pre ++ (Token.number s ∷ [])) (λ ms. same outer _ _ (one pre (members_tokens ms) (Token.number s)) (c (number s, ms))) h)
comes_out (Token.boolean b ∷ ts) outer P.Key pre c h =
    back pre ts (Token.boolean b) (comes_out ts outer P.Object (pre ++ (Token.boolean b ∷ [])) (λ ms. same outer _ _ (one pre (members_tokens ms) (Token.boolean b)) (c (boolean b, ms))) h)
comes_out (Token.null ∷ ts) outer P.Key pre c h =
    back pre ts Token.null (comes_out ts outer P.Object (pre ++ (Token.null ∷ [])) (λ ms. same outer _ _ (one pre (members_tokens ms) Token.null) (c (null, ms))) h)
comes_out (Token.begin_array ∷ ts) outer P.Key pre c h =
    back pre ts Token.begin_array (comes_out ts (P.Object ∷ outer) P.List (pre ++ (Token.begin_array ∷ [])) (λ r ms. same outer _ _ (two pre (items_tokens r) (members_tokens ms) Token.begin_array) (c (array r, ms))) h)
comes_out (Token.begin_object ∷ ts) outer P.Key pre c h =
    back pre ts Token.begin_object (comes_out ts (P.Object ∷ outer) P.Object (pre ++ (Token.begin_object ∷ [])) (λ r ms. same outer _ _ (two pre (members_tokens r) (members_tokens ms) Token.begin_object) (c (object r, ms))) h)
comes_out (Token.end_array ∷ ts) outer P.Key pre c h = absurd (never_whole ts h)
comes_out (Token.end_object ∷ ts) outer P.Key pre c h = absurd (never_whole ts h)
comes_out (Token.key s ∷ ts) outer P.Key pre c h = absurd (never_whole ts h)
comes_out (Token.bad ∷ ts) outer P.Key pre c h = absurd (never_whole ts h)

is_object : (ts : List Token) → fold nest nothing ts ≡ whole → IsObject ts
is_object [] h = absurd (grind (arith, h))
is_object (Token.begin_object ∷ ts) h = comes_out ts [] P.Object (Token.begin_object ∷ []) (λ ms. (ms, refl)) h
is_object (Token.end_object ∷ ts) h = absurd (never_whole ts h)
is_object (Token.begin_array ∷ ts) h = absurd (never_whole ts h)
is_object (Token.end_array ∷ ts) h = absurd (never_whole ts h)
is_object (Token.key s ∷ ts) h = absurd (never_whole ts h)
is_object (Token.string s ∷ ts) h = absurd (never_whole ts h)
is_object (Token.number s ∷ ts) h = absurd (never_whole ts h)
is_object (Token.boolean b ∷ ts) h = absurd (never_whole ts h)
is_object (Token.null ∷ ts) h = absurd (never_whole ts h)
is_object (Token.bad ∷ ts) h = absurd (never_whole ts h)

-- ---- what is printed of such tokens

pub is_line_of : (j : Json) (ts : List Token) (text : List ℕ) → ts ≡ json_tokens j → tokens (print ts) ≡ ts → text ≡ print ts ++ 10 ∷ [] → IsLineOf j text
is_line_of j ts text o e line = record {
  line = line ∙ ap (λ (us : List Token). print us ++ 10 ∷ []) o;
  is_read = λ most fits. ap (value most) (ap (λ (us : List Token). tokens (print us)) (sym o) ∙ e ∙ o ∙ sym (append-nil (json_tokens j))) ∙ value-json_tokens j most [] fits;
}

pub is_line : (ts : List Token) (text : List ℕ) → nesting ts ≡ whole → tokens (print ts) ≡ ts → text ≡ print ts ++ 10 ∷ [] → IsJsonLine text
unfolding nesting
is_line ts text h e line =
    let o = is_object ts h in
    record { tree = object o.0; is_line = is_line_of (object o.0) ts text o.1 e line }
