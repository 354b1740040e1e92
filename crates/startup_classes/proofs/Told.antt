-- What `load` answers.
use Rattle.std.proofs.Common.{◌≡◌, ℕ, ◌<◌, true, false, List, length, Result, Ok, Err, refl, sym, ap, subst, ◌∙◌, arith}
use Rattle.std.proofs.lemmas.Option.{slice_get_within}
use Rattle.class_pool.specs.declared.class.Class.{Class}
use Rattle.name_index.specs.Place.{has}
use Rattle.startup_classes.specs.declared.load_fault.LoadFault.{LoadFault}
use Rattle.startup_classes.specs.declared.load_fault.LoadFault.TheVariants as load
use Rattle.startup_classes.specs.Loading.{main_name, Loads, IsRefused, in_file, no_main, AllLoaded, Stopped, Told}
use Rattle.startup_classes.proofs.OneFault.{OneReading, one_list, no_stop, stop_is, refused_last}

abbrev err : LoadFault → Result (List Class) LoadFault
err f = Err f

pub loads : (listed files : List (List ℕ)) (cs : List Class) → AllLoaded listed files cs → has listed main_name ≡ true → Loads listed files cs
loads listed files cs h main = record { count = h.count; first = h.first; main = main }

-- the classes are those of any list that the files load to
pub loads_only : OneReading → (listed files : List (List ℕ)) (cs ds : List Class) → length listed ≡ length files → AllLoaded listed files cs → has listed main_name ≡ true → Loads listed files ds → ds ≡ cs
loads_only r listed files cs ds same h main g = one_list r listed files ds cs same g (loads listed files cs h main)

-- files that are loaded aren't refused
pub loaded_first : OneReading → (listed files : List (List ℕ)) (cs : List Class) (f : LoadFault) → AllLoaded listed files cs → has listed main_name ≡ true → IsRefused listed files f → ⊥
loaded_first r listed files cs f h main g =
    let p = refused_last r listed files f cs h.count h.bytes h.first g in
    let two : true ≡ false = sym main ∙ p.0 in
    absurd cc

pub no_main_refused : (listed files : List (List ℕ)) (cs : List Class) → AllLoaded listed files cs → has listed main_name ≡ false → IsRefused listed files load.NoMain
no_main_refused listed files cs h none = no_main cs h.count h.first none refl

pub no_main_only : (listed files : List (List ℕ)) (ds : List Class) → has listed main_name ≡ false → Loads listed files ds → ⊥
no_main_only listed files ds none g = let two : true ≡ false = sym g.main ∙ none in absurd cc

pub no_main_first : OneReading → (listed files : List (List ℕ)) (cs : List Class) (f : LoadFault) → AllLoaded listed files cs → IsRefused listed files f → f ≡ load.NoMain
no_main_first r listed files cs f h g = (refused_last r listed files f cs h.count h.bytes h.first g).1

pub stopped_only : OneReading → (listed files : List (List ℕ)) (ds : List Class) (f : LoadFault) → Stopped listed files f → Loads listed files ds → ⊥
stopped_only r listed files ds f s g =
    let less : length s.found < length listed = slice_get_within listed (length s.found) s.at.name s.at.name_there in
    no_stop r listed files ds s.found f g.first (omega (arith, g.count)) s.bytes s.at

pub stopped_first : OneReading → (listed files : List (List ℕ)) (f g : LoadFault) → IsRefused listed files f → Stopped listed files g → f ≡ g
stopped_first r listed files f g h s = stop_is r listed files f g s.found s.bytes h s.at

-- ---- the same in the words of the code

pub moved : (ls fs listed files : List (List ℕ)) (f : LoadFault) → ls ≡ listed → fs ≡ files → Stopped ls fs f → Stopped listed files f
moved ls fs listed files f a b s = subst (λ (x : List (List ℕ)). Stopped x files f) a (subst (λ (x : List (List ℕ)). Stopped ls x f) b s)

pub moved_all : (ls fs listed files : List (List ℕ)) (cs : List Class) → ls ≡ listed → fs ≡ files → AllLoaded ls fs cs → AllLoaded listed files cs
moved_all ls fs listed files cs a b s = subst (λ (x : List (List ℕ)). AllLoaded x files cs) a (subst (λ (x : List (List ℕ)). AllLoaded ls x cs) b s)

pub err_only : OneReading → (listed files : List (List ℕ)) (r : Result (List Class) LoadFault) (e : LoadFault) (ds : List Class) → r ≡ Err e → ((e ≡ load.Memory → ⊥) → Stopped listed files e) → Loads listed files ds → Told (Ok ds) r
err_only o listed files r e ds is stops g = subst (Told (Ok ds)) (sym is) (λ some. absurd (stopped_only o listed files ds e (stops some) g))

pub err_first : OneReading → (listed files : List (List ℕ)) (r : Result (List Class) LoadFault) (e f : LoadFault) → r ≡ Err e → ((e ≡ load.Memory → ⊥) → Stopped listed files e) → IsRefused listed files f → Told (Err f) r
err_first o listed files r e f is stops g = subst (Told (Err f)) (sym is) (λ some. ap err (stopped_first o listed files f e g (stops some)))

pub stop_refused : (listed files : List (List ℕ)) (f : LoadFault) → Stopped listed files f → IsRefused listed files f
stop_refused listed files f s = in_file s.found s.at
