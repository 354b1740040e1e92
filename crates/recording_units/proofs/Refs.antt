-- The units of a recording name numbers of the table.
use Rattle.std.proofs.Common.{◌≡◌, ℕ, zero, suc, ◌+◌, ◌<◌, ◌≤◌, ◌&&◌, Bool, true, false, cond, List, [], ◌∷◌, ◌++◌, length, map, Option, Some, None, refl, sym, ap, subst, ◌∙◌, arith, append_assoc, append-nil}
use Rattle.std.specs.Prelude.{slice_get, ◌==◌}
use Rattle.std.proofs.lemmas.Bool.{eqb-true}
use Rattle.item_types.specs.declared.value.NodeId.{NodeId}
use Rattle.item_types.specs.declared.value.Value.{Value, roll-Value, ind-Value, fold-roll-Value}
use Rattle.item_types.specs.declared.value.Value.TheOpen.{Value-F}
use Rattle.item_types.specs.declared.value.Value.TheFolds.{map-Value}
use Rattle.item_types.specs.declared.value.Value.TheOpen as one_of
use Rattle.recorder_proxy.specs.declared.call.Call.{Call}
use Rattle.recording_units.specs.declared.types.Key.{Key}
use Rattle.recording_units.specs.declared.types.Key.TheVariants as key
use Rattle.recording_units.specs.declared.types.Kind.{Kind}
use Rattle.recording_units.specs.declared.types.Kind.TheVariants as kind
use Rattle.recording_units.specs.declared.types.Used.{Used}
use Rattle.recording_units.specs.declared.types.Arg.{Arg}
use Rattle.recording_units.specs.declared.types.Arg.TheVariants as arg
use Rattle.recording_units.specs.declared.types.Piece.{Piece}
use Rattle.recording_units.specs.declared.types.Piece.TheVariants as piece
use Rattle.recording_units.specs.Units.{Listed, ListedAll, same_key, place, Listing, Walked, elements, fields, used_or, units_step, units, units_all, recorder_units, number_of, kept_under, call_units, calls_units}

-- the table has this at the number
abbrev pub IsAt : List Used → ℕ → Kind → Type 0
IsAt used n k = (u : Used) × (slice_get used n ≡ Some u) × (u.kind ≡ k)

abbrev pub ArgAt : List Used → Arg → Type 0
ArgAt used (arg.Made n k) = IsAt used n k
ArgAt used _ = Unit {0}

abbrev pub ArgsAt : List Used → List Arg → Type 0
ArgsAt used [] = Unit {0}
ArgsAt used (a ∷ rest) = ArgAt used a × ArgsAt used rest

abbrev pub PieceAt : List Used → Piece → Type 0
PieceAt used (piece.Make n k) = IsAt used n k
PieceAt used (piece.SetElement n a) = IsAt used n kind.List × ArgAt used a
PieceAt used (piece.SetField n b f a) = IsAt used n (kind.Bean b) × ArgAt used a
PieceAt used (piece.CallOf n r m args kept) = IsAt used n (kind.Recorder r) × ArgsAt used args

abbrev pub PiecesAt : List Used → List Piece → Type 0
PiecesAt used [] = Unit {0}
PiecesAt used (p ∷ ps) = PieceAt used p × PiecesAt used ps

-- a recorder's key has a recorder
abbrev KeyFits : Key → Kind → Type 0
KeyFits (key.Recorder r) k = k ≡ kind.Recorder r
KeyFits (key.Node id) k = Unit {0}

abbrev pub Typed : List Used → Type 0
Typed [] = Unit {0}
Typed (u ∷ us) = KeyFits u.key u.kind × Typed us

-- ---- a longer table

get_more : (us more : List Used) (n : ℕ) (u : Used) → slice_get us n ≡ Some u → slice_get (us ++ more) n ≡ Some u
get_more [] more zero u e = absurd cc
get_more [] more (suc n) u e = absurd cc
get_more (x ∷ us) more zero u e = e
get_more (x ∷ us) more (suc n) u e = get_more us more n u e

at_more : (us more : List Used) (n : ℕ) (k : Kind) → IsAt us n k → IsAt (us ++ more) n k
at_more us more n k h = (h.0, get_more us more n h.0 h.1, h.2)

arg_more : (us more : List Used) (a : Arg) → ArgAt us a → ArgAt (us ++ more) a
arg_more us more (arg.Made n k) h = at_more us more n k h
arg_more us more _ h = tt

args_more : (us more : List Used) (xs : List Arg) → ArgsAt us xs → ArgsAt (us ++ more) xs
args_more us more [] h = tt
args_more us more (a ∷ xs) h = (arg_more us more a h.0, args_more us more xs h.1)

piece_more : (us more : List Used) (p : Piece) → PieceAt us p → PieceAt (us ++ more) p
piece_more us more (piece.Make n k) h = at_more us more n k h
piece_more us more (piece.SetElement n a) h = (at_more us more n kind.List h.0, arg_more us more a h.1)
piece_more us more (piece.SetField n b f a) h = (at_more us more n (kind.Bean b) h.0, arg_more us more a h.1)
piece_more us more (piece.CallOf n r m args kept) h = (at_more us more n (kind.Recorder r) h.0, args_more us more args h.1)

pieces_more : (us more : List Used) (ps : List Piece) → PiecesAt us ps → PiecesAt (us ++ more) ps
pieces_more us more [] h = tt
pieces_more us more (p ∷ ps) h = (piece_more us more p h.0, pieces_more us more ps h.1)

pieces_append : (us : List Used) (ps qs : List Piece) → PiecesAt us ps → PiecesAt us qs → PiecesAt us (ps ++ qs)
pieces_append us [] qs h k = k
pieces_append us (p ∷ ps) qs h k = (h.0, pieces_append us ps qs h.1 k)

typed_append : (us vs : List Used) → Typed us → Typed vs → Typed (us ++ vs)
typed_append [] vs h k = k
typed_append (u ∷ us) vs h k = (h.0, typed_append us vs h.1 k)

-- ---- what is found is there

get_last : (us : List Used) (u : Used) → slice_get (us ++ u ∷ []) (length us) ≡ Some u
get_last [] u = refl
get_last (x ∷ us) u = get_last us u

abbrev Placed : List Used → ℕ → Option (ℕ × Kind) → Type 0
Placed us i None = Unit {0}
Placed us i (Some x) = (n : ℕ) × (x.0 ≡ i + n) × IsAt us n x.1

some_found : ℕ × Kind → Option (ℕ × Kind)
some_found x = Some x

placed_by : (i : ℕ) (u : Used) (us : List Used) (b : Bool) (o : Option (ℕ × Kind)) → Placed us (i + 1) o → Placed (u ∷ us) i (cond b (Some (i, u.kind)) o)
placed_by i u us true o h = (0, omega arith, (u, refl, refl))
placed_by i u us false None h = tt
placed_by i u us false (Some x) h = (suc h.0, omega (arith, h.1), h.2)

placed : (i : ℕ) (k : Key) (us : List Used) → Placed us i (place i k us)
placed i k [] = tt
placed i k (u ∷ us) = placed_by i u us (same_key k u.key) (place (i + 1) k us) (placed (i + 1) k us)

found_there : (us : List Used) (o : Option (ℕ × Kind)) (x : ℕ × Kind) → Placed us 0 o → o ≡ Some x → IsAt us x.0 x.1
found_there us None x h e = absurd cc
found_there us (Some y) x h e =
    let same : y ≡ x = cc in
    let is : h.0 ≡ y.0 = omega (arith, h.1) in
    subst (λ z. IsAt us z.0 z.1) same (subst (λ n. IsAt us n y.1) is h.2)

abbrev IsRecorder : ℕ → Option (ℕ × Kind) → Type 0
IsRecorder r None = Unit {0}
IsRecorder r (Some x) = x.1 ≡ kind.Recorder r

fits_by : (r : ℕ) (k : Key) (made : Kind) → same_key (key.Recorder r) k ≡ true → KeyFits k made → made ≡ kind.Recorder r
fits_by r (key.Recorder s) made e h = h ∙ ap kind.Recorder (sym (eqb-true r s e))
fits_by r (key.Node id) made e h = absurd cc

recorder_by : (i r : ℕ) (u : Used) (b : Bool) (o : Option (ℕ × Kind)) → same_key (key.Recorder r) u.key ≡ b → KeyFits u.key u.kind → IsRecorder r o → IsRecorder r (cond b (Some (i, u.kind)) o)
recorder_by i r u true o e h k = fits_by r u.key u.kind e h
recorder_by i r u false o e h k = k

recorder_found : (i r : ℕ) (us : List Used) → Typed us → IsRecorder r (place i (key.Recorder r) us)
recorder_found i r [] t = tt
recorder_found i r (u ∷ us) t = recorder_by i r u (same_key (key.Recorder r) u.key) (place (i + 1) (key.Recorder r) us) refl t.0 (recorder_found (i + 1) r us t.1)

-- ---- the walk

record Goes (used : List Used) (after : List Used) (ps : List Piece) : Type 0 where
  pub grows : (more : List Used) × (after ≡ used ++ more)
  pub typed : Typed after
  pub pieces : PiecesAt after ps

record Lists (used : List Used) (l : Listed) : Type 0 where
  pub goes : Goes used l.used l.units
  pub value : ArgAt l.used l.value

pieces_later : (used after : List Used) (before ps : List Piece) → (more : List Used) × (after ≡ used ++ more) → PiecesAt used before → PiecesAt after ps → PiecesAt after (before ++ ps)
pieces_later used after before ps g h k = pieces_append after before ps (subst (λ us. PiecesAt us before) (sym g.1) (pieces_more used g.0 before h)) k

at_later : (used after : List Used) (n : ℕ) (k : Kind) → (more : List Used) × (after ≡ used ++ more) → IsAt used n k → IsAt after n k
at_later used after n k g h = subst (λ us. IsAt us n k) (sym g.1) (at_more used g.0 n k h)

arg_later : (used after : List Used) (a : Arg) → (more : List Used) × (after ≡ used ++ more) → ArgAt used a → ArgAt after a
arg_later used after a g h = subst (λ us. ArgAt us a) (sym g.1) (arg_more used g.0 a h)

grows_then : (a b c : List Used) → (more : List Used) × (b ≡ a ++ more) → (more : List Used) × (c ≡ b ++ more) → (more : List Used) × (c ≡ a ++ more)
grows_then a b c g h = (g.0 ++ h.0, h.1 ∙ (ap (λ us. us ++ h.0) g.1 ∙ append_assoc a g.0 h.0))

Walking : Value → Type 0
Walking v = (used : List Used) → Typed used → Lists used (units v used)

abbrev Each : Type 0
Each = (v : Value) × ((used : List Used) → Typed used → Lists used (units v used))

abbrev listings : List Each → List Listing
listings es = map units (map (λ e. e.0) es)

elements_go : (es : List Each) (n : ℕ) (used : List Used) → Typed used → IsAt used n kind.List → let r = elements (listings es) n used in Goes used r.0 r.1
elements_go [] n used t at = record { grows = ([], sym (append-nil used)); typed = t; pieces = tt }
elements_go (e ∷ es) n used t at =
    let a = units e.0 used in
    let l = e.1 used t in
    let at_a = at_later used a.used n kind.List l.goes.grows at in
    let r = elements_go es n a.used l.goes.typed at_a in
    let tail = elements (listings es) n a.used in
    record {
      grows = grows_then used a.used tail.0 l.goes.grows r.grows;
      typed = r.typed;
      pieces = pieces_later a.used tail.0 a.units (piece.SetElement n a.value ∷ tail.1) r.grows l.goes.pieces ((at_later a.used tail.0 n kind.List r.grows at_a, arg_later a.used tail.0 a.value r.grows l.value), r.pieces);
    }

fields_go : (es : List Each) (n bean f : ℕ) (used : List Used) → Typed used → IsAt used n (kind.Bean bean) → let r = fields (listings es) n bean f used in Goes used r.0 r.1
fields_go [] n bean f used t at = record { grows = ([], sym (append-nil used)); typed = t; pieces = tt }
fields_go (e ∷ es) n bean f used t at =
    let a = units e.0 used in
    let l = e.1 used t in
    let at_a = at_later used a.used n (kind.Bean bean) l.goes.grows at in
    let r = fields_go es n bean (f + 1) a.used l.goes.typed at_a in
    let tail = fields (listings es) n bean (f + 1) a.used in
    record {
      grows = grows_then used a.used tail.0 l.goes.grows r.grows;
      typed = r.typed;
      pieces = pieces_later a.used tail.0 a.units (piece.SetField n bean f a.value ∷ tail.1) r.grows l.goes.pieces ((at_later a.used tail.0 n (kind.Bean bean) r.grows at_a, arg_later a.used tail.0 a.value r.grows l.value), r.pieces);
    }

key_goes : (o : Option (ℕ × Kind)) (used : List Used) (k : Key) (made : Kind) (parts : ℕ → List Used → Walked) → place 0 k used ≡ o → Typed used → KeyFits k made →
    ((n : ℕ) (us : List Used) → Typed us → IsAt us n made → let r = parts n us in Goes us r.0 r.1) → Lists used (used_or o used k made parts)
key_goes (Some x) used k made parts e t fit go =
    record {
      goes = record { grows = ([], sym (append-nil used)); typed = t; pieces = tt };
      value = found_there used (place 0 k used) x (placed 0 k used) e;
    }
key_goes None used k made parts e t fit go =
    let u : Used = record { key = k; kind = made } in
    let us : List Used = used ++ u ∷ [] in
    let at : IsAt us (length used) made = (u, get_last used u, refl) in
    let r = go (length used) us (typed_append used (u ∷ []) t (fit, tt)) at in
    let there : IsAt (parts (length used) us).0 (length used) made = at_later us (parts (length used) us).0 (length used) made r.grows at in
    record {
      goes = record { grows = grows_then used us (parts (length used) us).0 (u ∷ [], refl) r.grows; typed = r.typed; pieces = (there, r.pieces) };
      value = there;
    }

layer : (y : Value-F Each) (used : List Used) → Typed used → Lists used (units_step (map-Value Value Listing units (map-Value Each Value (λ e. e.0) y)) used)
layer one_of.Null used t = record { goes = record { grows = ([], sym (append-nil used)); typed = t; pieces = tt }; value = tt }
layer (one_of.Bool b) used t = record { goes = record { grows = ([], sym (append-nil used)); typed = t; pieces = tt }; value = tt }
layer (one_of.Long n) used t = record { goes = record { grows = ([], sym (append-nil used)); typed = t; pieces = tt }; value = tt }
layer (one_of.Str s) used t = record { goes = record { grows = ([], sym (append-nil used)); typed = t; pieces = tt }; value = tt }
layer (one_of.List id es) used t = key_goes (place 0 (key.Node id) used) used (key.Node id) kind.List (elements (listings es)) refl t tt (elements_go es)
layer (one_of.Bean id bean es) used t =
    key_goes (place 0 (key.Node id) used) used (key.Node id) (kind.Bean bean) (λ n. fields (listings es) n bean 0) refl t tt (λ n us. fields_go es n bean 0 us)
layer (one_of.Returned p) used t = record { goes = record { grows = ([], sym (append-nil used)); typed = t; pieces = tt }; value = tt }

abbrev Walks : Value → Type 0
Walks v = (used : List Used) → Typed used → Lists used (units v used)

walks : (v : Value) → Walks v
walks = ind-Value Walks (λ x y is. subst (λ z. Walks (roll-Value z)) is (λ used t. rw (fold-roll-Value Listing units_step) (layer y used t)))

-- ---- calls

record ListsAll (used : List Used) (l : ListedAll) : Type 0 where
  pub goes : Goes used l.used l.units
  pub values : ArgsAt l.used l.values

all_go : (vs : List Value) (used : List Used) → Typed used → ListsAll used (units_all (map units vs) used)
all_go [] used t = record { goes = record { grows = ([], sym (append-nil used)); typed = t; pieces = tt }; values = tt }
all_go (v ∷ vs) used t =
    let a = units v used in
    let l = walks v used t in
    let r = all_go vs a.used l.goes.typed in
    let tail = units_all (map units vs) a.used in
    record {
      goes = record {
        grows = grows_then used a.used tail.used l.goes.grows r.goes.grows;
        typed = r.goes.typed;
        pieces = pieces_later a.used tail.used a.units tail.units r.goes.grows l.goes.pieces r.goes.pieces;
      };
      values = (arg_later a.used tail.used a.value r.goes.grows l.value, r.values);
    }

none_go : (made : Kind) (n : ℕ) (us : List Used) → Typed us → IsAt us n made → Goes us us []
none_go made n us t at = record { grows = ([], sym (append-nil us)); typed = t; pieces = tt }

number_at : (r : ℕ) (o : Option (ℕ × Kind)) (used : List Used) (k : Key) → IsRecorder r o → let l = used_or o used k (kind.Recorder r) (λ _ us. (us, [])) in ArgAt l.used l.value → IsAt l.used (number_of l.value) (kind.Recorder r)
number_at r (Some x) used k h at = subst (λ z. IsAt used x.0 z) h at
number_at r None used k h at = at

call_goes : (step j : ℕ) (c : Call) (used : List Used) → Typed used → let r = call_units step j c used in Goes used r.0 r.1
call_goes step j c used t =
    let me = recorder_units c.recorder used in
    let f = key_goes (place 0 (key.Recorder c.recorder) used) used (key.Recorder c.recorder) (kind.Recorder c.recorder) (λ _ us. (us, [])) refl t refl (none_go (kind.Recorder c.recorder)) in
    let at = number_at c.recorder (place 0 (key.Recorder c.recorder) used) used (key.Recorder c.recorder) (recorder_found 0 c.recorder used t) f.value in
    let args = units_all (map units c.args) me.used in
    let g = all_go c.args me.used f.goes.typed in
    let p = piece.CallOf (number_of me.value) c.recorder c.method args.values (kept_under step j c.keeps) in
    record {
      grows = grows_then used me.used args.used f.goes.grows g.goes.grows;
      typed = g.goes.typed;
      pieces = pieces_later me.used args.used me.units (args.units ++ p ∷ []) g.goes.grows f.goes.pieces
          (pieces_append args.used args.units (p ∷ []) g.goes.pieces ((at_later me.used args.used (number_of me.value) (kind.Recorder c.recorder) g.goes.grows at, g.values), tt));
    }

calls_go : (step j : ℕ) (cs : List Call) (used : List Used) → Typed used → let r = calls_units step j cs used in Goes used r.0 r.1
calls_go step j [] used t = record { grows = ([], sym (append-nil used)); typed = t; pieces = tt }
calls_go step j (c ∷ cs) used t =
    let a = call_units step j c used in
    let f = call_goes step j c used t in
    let g = calls_go step (j + 1) cs a.0 f.typed in
    let tail = calls_units step (j + 1) cs a.0 in
    record {
      grows = grows_then used a.0 tail.0 f.grows g.grows;
      typed = g.typed;
      pieces = pieces_later a.0 tail.0 a.1 tail.1 g.grows f.pieces g.pieces;
    }

pub pieces_at : (step : ℕ) (cs : List Call) → let r = calls_units step 0 cs [] in PiecesAt r.0 r.1
pieces_at step cs = (calls_go step 0 cs [] tt).pieces
