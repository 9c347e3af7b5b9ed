-- What do calls write, one after another?
use Rattle.std.specs.Prelude.{List, [], ◌∷◌, ◌++◌, flat_map}
use Rattle.json.specs.Token.{Token}
use Rattle.json.specs.Json.{Json, null, boolean, number, string, array, object, Items, no_items, item, Members, no_members, member}
use Rattle.text_json.specs.declared.Json as J
use Rattle.text_json.specs.declared.Place.{Place}
use Rattle.text_json.specs.declared.Place.TheVariants as P
use Rattle.text_json.specs.Nesting.{Nest, nothing, inside, whole, broken, end_token, nest, nesting}

-- the tokens that a writer has written
abbrev pub written : J.Json → List Token
written w = w.out.tokens

abbrev pub if_inside : Nest → List Token → List Token → List Token
if_inside nothing more ts = ts
if_inside (inside outer place) more ts = more
if_inside whole more ts = ts
if_inside broken more ts = ts

-- a token behind others, where it is in place
unfoldable pub put : Token → List Token → List Token
put t ts = if_inside (nest (nesting ts) t) (ts ++ t ∷ []) ts

abbrev pub end_behind : List Place → Place → List Token → List Token
end_behind [] place ts = ts
end_behind (around ∷ outer) P.Key ts = ts
end_behind (around ∷ outer) place ts = ts ++ end_token place ∷ []

abbrev pub end_inside : Nest → List Token → List Token
end_inside nothing ts = ts
end_inside (inside outer place) ts = end_behind outer place ts
end_inside whole ts = ts
end_inside broken ts = ts

-- the end of what was begun last, where it isn't the whole and no key waits for its value
unfoldable pub put_end : List Token → List Token
put_end ts = end_inside (nesting ts) ts

-- what a value, items and members add
abbrev mutual
  pub with_value : Json → List Token → List Token
  with_value null ts = put Token.null ts
  with_value (boolean b) ts = put (Token.boolean b) ts
  with_value (number s) ts = put (Token.number s) ts
  with_value (string s) ts = put (Token.string s) ts
  with_value (array js) ts = put_end (with_items js (put Token.begin_array ts))
  with_value (object ms) ts = put_end (with_members ms (put Token.begin_object ts))

  pub with_items : Items → List Token → List Token
  with_items no_items ts = ts
  with_items (item j js) ts = with_items js (with_value j ts)

  pub with_members : Members → List Token → List Token
  with_members no_members ts = ts
  with_members (member k j ms) ts = with_members ms (with_value j (put (Token.key k) ts))

-- what ends an object or a list in the end; a key without a value gets `null`
abbrev pub last_tokens : Place → List Token
last_tokens P.List = Token.end_array ∷ []
last_tokens P.Object = Token.end_object ∷ []
last_tokens P.Key = Token.null ∷ (Token.end_object ∷ [])

-- places by innermost first
abbrev pub all_last_tokens : List Place → List Token
all_last_tokens places = flat_map last_tokens places
