-- The program `redblack` of the library, each function under its text.
use Rattle.std.specs.Prelude.{List, [], ◌∷◌, codes}
use Rattle.core_terms.specs.Types.{Ty, UnitTy, IntTy, PairTy, NamedTy}
use Rattle.core_terms.specs.Terms.{Expression, UnitE, LocalE, PairE, FstE, SndE, AuthE, UnauthE, ConE, CompareE, IfE, MatchE, Inner, Init, Query, Update, Function, Program}
use Rattle.core_terms.specs.declared.term.Compare.TheVariants.{Eq, Lt}
use Rattle.ideal_meaning.specs.Examples.{operands, arms_of, function, program}
use Rattle.ideal_meaning.specs.Library.{tree, found, hashed_tree, missing, found_is, calling}

--   type tree = Leaf | Red(int, int, auth tree, auth tree) | Black(int, int, auth tree, auth tree);
--   type found = Missing | Found(int);
--   state auth tree;
--   type grown = Settled(auth tree) | Rising(int, int, auth tree, auth tree)
--     | Clash(int, int, int, int, auth tree, auth tree, auth tree);
abbrev pub grown : Ty
grown = NamedTy 2

abbrev pub node_fields : List Ty
node_fields = IntTy ∷ IntTy ∷ hashed_tree ∷ hashed_tree ∷ []

-- authenticated trees
abbrev pub leaf : Expression
leaf = AuthE tree (ConE 0 0 (operands []))

abbrev pub red : (key value left right : Expression) → Expression
red key value left right = AuthE tree (ConE 0 1 (operands (key ∷ value ∷ left ∷ right ∷ [])))

abbrev pub black : (key value left right : Expression) → Expression
black key value left right = AuthE tree (ConE 0 2 (operands (key ∷ value ∷ left ∷ right ∷ [])))

-- what grew
abbrev pub settled : Expression → Expression
settled t = ConE 2 0 (operands (t ∷ []))

abbrev pub rising : (key value left right : Expression) → Expression
rising key value left right = ConE 2 1 (operands (key ∷ value ∷ left ∷ right ∷ []))

abbrev pub clash : List Expression → Expression
clash parts = ConE 2 2 (operands parts)

-- one of three ways, by how the second local, a key, stands to another
abbrev pub by_key : (other here before behind : Expression) → Expression
by_key other here before behind = IfE (CompareE Eq (LocalE 1) other) here (IfE (CompareE Lt (LocalE 1) other) before behind)

--   fun look(t: auth tree, k: int): found = match unauth(t) with
--     | Leaf -> Missing
--     | Red(a, v, l, r) -> if eq(k, a) then Found(v) else if lt(k, a) then look(l, k) else look(r, k)
--     | Black(a, v, l, r) -> if eq(k, a) then Found(v) else if lt(k, a) then look(l, k) else look(r, k) end;
abbrev pub look_in_node : Expression
look_in_node = by_key (LocalE 2) (found_is (LocalE 3)) (calling 0 (LocalE 4 ∷ LocalE 1 ∷ [])) (calling 0 (LocalE 5 ∷ LocalE 1 ∷ []))

abbrev pub redblack_look : Function
redblack_look = function (codes "look") Inner (hashed_tree ∷ IntTy ∷ []) found
    (MatchE 0 (UnauthE tree (LocalE 0)) (arms_of (missing ∷ look_in_node ∷ look_in_node ∷ [])))

--   fun red_left(g: grown, a: int, w: int, r: auth tree): grown = match g with
--     | Settled(l) -> Rising(a, w, l, r)
--     | Rising(b, x, p, q) -> Clash(b, x, a, w, p, q, r)
--     | Clash(b, x, c, y, p, q, s) -> Clash(c, y, a, w, auth(Red(b, x, p, q)), s, r) end;
abbrev pub redblack_red_left : Function
redblack_red_left = function (codes "red_left") Inner (grown ∷ IntTy ∷ IntTy ∷ hashed_tree ∷ []) grown (MatchE 2 (LocalE 0) (arms_of (
    rising (LocalE 1) (LocalE 2) (LocalE 4) (LocalE 3)
    ∷ clash (LocalE 4 ∷ LocalE 5 ∷ LocalE 1 ∷ LocalE 2 ∷ LocalE 6 ∷ LocalE 7 ∷ LocalE 3 ∷ [])
    ∷ clash (LocalE 6 ∷ LocalE 7 ∷ LocalE 1 ∷ LocalE 2 ∷ red (LocalE 4) (LocalE 5) (LocalE 8) (LocalE 9) ∷ LocalE 10 ∷ LocalE 3 ∷ [])
    ∷ [])))

--   fun red_right(l: auth tree, a: int, w: int, g: grown): grown = match g with
--     | Settled(r) -> Rising(a, w, l, r)
--     | Rising(b, x, p, q) -> Clash(a, w, b, x, l, p, q)
--     | Clash(b, x, c, y, p, q, s) -> Clash(a, w, b, x, l, p, auth(Red(c, y, q, s))) end;
abbrev pub redblack_red_right : Function
redblack_red_right = function (codes "red_right") Inner (hashed_tree ∷ IntTy ∷ IntTy ∷ grown ∷ []) grown (MatchE 2 (LocalE 3) (arms_of (
    rising (LocalE 1) (LocalE 2) (LocalE 0) (LocalE 4)
    ∷ clash (LocalE 1 ∷ LocalE 2 ∷ LocalE 4 ∷ LocalE 5 ∷ LocalE 0 ∷ LocalE 6 ∷ LocalE 7 ∷ [])
    ∷ clash (LocalE 1 ∷ LocalE 2 ∷ LocalE 4 ∷ LocalE 5 ∷ LocalE 0 ∷ LocalE 8 ∷ red (LocalE 6) (LocalE 7) (LocalE 9) (LocalE 10) ∷ [])
    ∷ [])))

--   fun black_left(g: grown, a: int, w: int, r: auth tree): grown = match g with
--     | Settled(l) -> Settled(auth(Black(a, w, l, r)))
--     | Rising(b, x, p, q) -> Settled(auth(Black(a, w, auth(Red(b, x, p, q)), r)))
--     | Clash(b, x, c, y, p, q, s) -> Rising(c, y, auth(Black(b, x, p, q)), auth(Black(a, w, s, r))) end;
abbrev pub redblack_black_left : Function
redblack_black_left = function (codes "black_left") Inner (grown ∷ IntTy ∷ IntTy ∷ hashed_tree ∷ []) grown (MatchE 2 (LocalE 0) (arms_of (
    settled (black (LocalE 1) (LocalE 2) (LocalE 4) (LocalE 3))
    ∷ settled (black (LocalE 1) (LocalE 2) (red (LocalE 4) (LocalE 5) (LocalE 6) (LocalE 7)) (LocalE 3))
    ∷ rising (LocalE 6) (LocalE 7) (black (LocalE 4) (LocalE 5) (LocalE 8) (LocalE 9)) (black (LocalE 1) (LocalE 2) (LocalE 10) (LocalE 3))
    ∷ [])))

--   fun black_right(l: auth tree, a: int, w: int, g: grown): grown = match g with
--     | Settled(r) -> Settled(auth(Black(a, w, l, r)))
--     | Rising(b, x, p, q) -> Settled(auth(Black(a, w, l, auth(Red(b, x, p, q)))))
--     | Clash(b, x, c, y, p, q, s) -> Rising(b, x, auth(Black(a, w, l, p)), auth(Black(c, y, q, s))) end;
abbrev pub redblack_black_right : Function
redblack_black_right = function (codes "black_right") Inner (hashed_tree ∷ IntTy ∷ IntTy ∷ grown ∷ []) grown (MatchE 2 (LocalE 3) (arms_of (
    settled (black (LocalE 1) (LocalE 2) (LocalE 0) (LocalE 4))
    ∷ settled (black (LocalE 1) (LocalE 2) (LocalE 0) (red (LocalE 4) (LocalE 5) (LocalE 6) (LocalE 7)))
    ∷ rising (LocalE 4) (LocalE 5) (black (LocalE 1) (LocalE 2) (LocalE 0) (LocalE 8)) (black (LocalE 6) (LocalE 7) (LocalE 9) (LocalE 10))
    ∷ [])))

--   fun ins(t: auth tree, k: int, v: int): grown = match unauth(t) with
--     | Leaf -> Rising(k, v, auth(Leaf), auth(Leaf))
--     | Red(a, w, l, r) -> if eq(k, a) then Rising(a, v, l, r)
--         else if lt(k, a) then red_left(ins(l, k, v), a, w, r) else red_right(l, a, w, ins(r, k, v))
--     | Black(a, w, l, r) -> if eq(k, a) then Settled(auth(Black(a, v, l, r)))
--         else if lt(k, a) then black_left(ins(l, k, v), a, w, r) else black_right(l, a, w, ins(r, k, v)) end;
abbrev pub redblack_ins : Function
redblack_ins = function (codes "ins") Inner (hashed_tree ∷ IntTy ∷ IntTy ∷ []) grown (MatchE 0 (UnauthE tree (LocalE 0)) (arms_of (
    rising (LocalE 1) (LocalE 2) leaf leaf
    ∷ by_key (LocalE 3) (rising (LocalE 3) (LocalE 2) (LocalE 5) (LocalE 6))
    (calling 1 (calling 5 (LocalE 5 ∷ LocalE 1 ∷ LocalE 2 ∷ []) ∷ LocalE 3 ∷ LocalE 4 ∷ LocalE 6 ∷ []))
    (calling 2 (LocalE 5 ∷ LocalE 3 ∷ LocalE 4 ∷ calling 5 (LocalE 6 ∷ LocalE 1 ∷ LocalE 2 ∷ []) ∷ []))
    ∷ by_key (LocalE 3) (settled (black (LocalE 3) (LocalE 2) (LocalE 5) (LocalE 6)))
    (calling 3 (calling 5 (LocalE 5 ∷ LocalE 1 ∷ LocalE 2 ∷ []) ∷ LocalE 3 ∷ LocalE 4 ∷ LocalE 6 ∷ []))
    (calling 4 (LocalE 5 ∷ LocalE 3 ∷ LocalE 4 ∷ calling 5 (LocalE 6 ∷ LocalE 1 ∷ LocalE 2 ∷ []) ∷ []))
    ∷ [])))

--   fun root(g: grown): auth tree = match g with
--     | Settled(t) -> t
--     | Rising(a, w, l, r) -> auth(Black(a, w, l, r))
--     | Clash(b, x, c, y, p, q, s) -> auth(Black(c, y, auth(Red(b, x, p, q)), s)) end;
abbrev pub redblack_root : Function
redblack_root = function (codes "root") Inner (grown ∷ []) hashed_tree (MatchE 2 (LocalE 0) (arms_of (
    LocalE 1
    ∷ black (LocalE 1) (LocalE 2) (LocalE 3) (LocalE 4)
    ∷ black (LocalE 3) (LocalE 4) (red (LocalE 1) (LocalE 2) (LocalE 5) (LocalE 6)) (LocalE 7)
    ∷ [])))

--   init empty(x: unit): auth tree = auth(Leaf);
--   query get(s: auth tree, k: int): found = look(s, k);
--   update put(s: auth tree, e: (int, int)): (auth tree, unit) = (root(ins(s, fst(e), snd(e))), ());
abbrev pub redblack : Program
redblack = program (
    ([] ∷ node_fields ∷ node_fields ∷ [])
    ∷ ([] ∷ (IntTy ∷ []) ∷ [])
    ∷ ((hashed_tree ∷ []) ∷ node_fields ∷ (IntTy ∷ IntTy ∷ IntTy ∷ IntTy ∷ hashed_tree ∷ hashed_tree ∷ hashed_tree ∷ []) ∷ [])
    ∷ [])
    hashed_tree (
    redblack_look ∷ redblack_red_left ∷ redblack_red_right ∷ redblack_black_left ∷ redblack_black_right ∷ redblack_ins ∷ redblack_root
    ∷ function (codes "empty") Init (UnitTy ∷ []) hashed_tree leaf
    ∷ function (codes "get") Query (hashed_tree ∷ IntTy ∷ []) found (calling 0 (LocalE 0 ∷ LocalE 1 ∷ []))
    ∷ function (codes "put") Update (hashed_tree ∷ PairTy IntTy IntTy ∷ []) (PairTy hashed_tree UnitTy)
    (PairE hashed_tree UnitTy (calling 6 (calling 5 (LocalE 0 ∷ FstE IntTy IntTy (LocalE 1) ∷ SndE IntTy IntTy (LocalE 1) ∷ []) ∷ [])) UnitE)
    ∷ [])
