-- Where tokens of JSON end: what is open behind them, and what may come next.
use Rattle.std.specs.Prelude.{List, [], ◌∷◌, fold, Option, Some, None}
use Rattle.json.specs.Token.{Token, begin_object, end_object, begin_array, end_array, key, string, number, boolean, null, bad}
use Rattle.text_json.specs.declared.Place.{Place}
use Rattle.text_json.specs.declared.Place.TheVariants as P

-- the place behind a value, where one may come
abbrev pub after_value : Place → Option Place
after_value P.List = Some P.List
after_value P.Object = None
after_value P.Key = Some P.Object

abbrev pub begin_token : Place → Token
begin_token P.List = begin_array
begin_token P.Object = begin_object
begin_token P.Key = begin_object

abbrev pub end_token : Place → Token
end_token P.List = end_array
end_token P.Object = end_object
end_token P.Key = end_object

-- nothing is written; an object is open, with what is open in it, and the places behind what is open, innermost first; the
-- object is ended; or a token was out of place
pub data Nest : Type 0 where
  nothing : Nest
  inside : (outer : List Place) (place : Place) → Nest
  whole : Nest
  broken : Nest

abbrev pub placed : List Place → Option Place → Nest
placed outer None = broken
placed outer (Some after) = inside outer after

abbrev pub opened : List Place → Option Place → Place → Nest
opened outer None inner = broken
opened outer (Some after) inner = inside (after ∷ outer) inner

abbrev pub closed : List Place → Nest
closed [] = whole
closed (place ∷ outer) = inside outer place

abbrev pub with_key : List Place → Place → Nest
with_key outer P.List = broken
with_key outer P.Object = inside outer P.Key
with_key outer P.Key = broken

abbrev pub object_ended : List Place → Place → Nest
object_ended outer P.List = broken
object_ended outer P.Object = closed outer
object_ended outer P.Key = broken

abbrev pub list_ended : List Place → Place → Nest
list_ended outer P.List = closed outer
list_ended outer P.Object = broken
list_ended outer P.Key = broken

abbrev pub nest_inside : List Place → Place → Token → Nest
nest_inside outer place begin_object = opened outer (after_value place) P.Object
nest_inside outer place end_object = object_ended outer place
nest_inside outer place begin_array = opened outer (after_value place) P.List
nest_inside outer place end_array = list_ended outer place
nest_inside outer place (key s) = with_key outer place
nest_inside outer place (string s) = placed outer (after_value place)
nest_inside outer place (number s) = placed outer (after_value place)
nest_inside outer place (boolean b) = placed outer (after_value place)
nest_inside outer place null = placed outer (after_value place)
nest_inside outer place bad = broken

abbrev pub begun : Token → Nest
begun begin_object = inside [] P.Object
begun t = broken

abbrev pub nest : Nest → Token → Nest
nest nothing t = begun t
nest (inside outer place) t = nest_inside outer place t
nest whole t = broken
nest broken t = broken

unfoldable pub nesting : List Token → Nest
nesting ts = fold nest nothing ts
