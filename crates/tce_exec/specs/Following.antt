-- Runners keep their own, and what is kept twice is kept.
use Rattle.std.proofs.Common.{◌≡◌, ℕ, ◌≤◌, Bool, true, false, List, Option, Some, None, is_some, refl, sym, ap, ◌∙◌, subst}
use Rattle.std.specs.Option.{option_map}
use Rattle.std.proofs.lemmas.Bool.{true≢false, false≢true}
use Rattle.std.proofs.lemmas.Option.{same_Some}
use Rattle.tce_outside.specs.Files.{Files, file}
use Rattle.tce_array.specs.Files.{AreBytes}
use Rattle.tce_cache.specs.Cache.{current_word}
use Rattle.tce_cache.specs.Held.{Held}
use Rattle.tce_cache.specs.Touch.{front, with_held}
use Rattle.tce_cache.specs.Transfer.{contents}
use Rattle.tce_exec.specs.Workspace.{Workspace}
use Rattle.tce_exec.specs.Steps.{IsKept, IsContinued}
use Rattle.tce_exec.specs.Keeping.{IsLater}

-- ---- a workspace as it was

pub kept_own : (x : Workspace) → IsKept x x
kept_own x = record {
  places = refl;
  tensor = refl;
  cache = refl;
  same_length = refl;
  outside = λ p low out. refl;
  files = record { tells = refl; begins = λ name. refl; same = λ name ne fs told gs now. ap (λ f. file f name) (same_Some gs fs (sym now ∙ told)) };
}

pub continued_own : (x : Workspace) → IsContinued x x
continued_own x = record {
  fronts = λ fs told gs now i a at. ap (λ f. option_map (front a) (file f a.file.bytes)) (same_Some gs fs (sym now ∙ told));
  bytes = λ fs told gs now i a at h. subst (λ f. AreBytes (contents a f)) (same_Some fs gs (sym told ∙ now)) h;
  padding = λ fs told gs now tile k pad. ap (λ f. current_word x.cache f x.words x.tensor tile k) (same_Some gs fs (sym now ∙ told));
}

-- ---- calls one after the other

abbrev pub touched_to : Workspace → List ℕ → List Held → ℕ → Option Files → Workspace
touched_to x words held touches files = record x { words = words; cache = with_held x.cache held touches; files = files }

-- what is told before and after is told in between
pub told_between : (before mid : Option Files) (fs : Files) → is_some mid ≡ is_some before → before ≡ Some fs → (gs : Files) × (mid ≡ Some gs)
told_between before None fs tells told = absurd (false≢true (tells ∙ ap is_some told))
told_between before (Some gs) fs tells told = (gs, refl)

-- what is kept has these parts
pub named : (x y : Workspace) → IsKept x y → y ≡ touched_to x y.words y.cache.held y.cache.touches y.files
named x y k =
    ap (λ c. record y { cache = c }) k.cache
    ∙ ap (λ p. record y { cache = with_held x.cache y.cache.held y.cache.touches; places = p }) k.places
    ∙ ap (λ t. record x { tensor = t; words = y.words; cache = with_held x.cache y.cache.held y.cache.touches; files = y.files }) k.tensor

pub kept_on : (x y z : Workspace) → IsKept x y → IsKept y z → IsKept x z
kept_on x y z k l = let e = named x y k in go y.words y.cache.held y.cache.touches y.files (subst (λ w. IsKept x w) e k) (subst (λ w. IsKept w z) e l)
  where
    go : (words : List ℕ) (held : List Held) (touches : ℕ) (files : Option Files) → IsKept x (touched_to x words held touches files) → IsKept (touched_to x words held touches files) z → IsKept x z
    go words held touches files k l = record {
      places = l.places;
      tensor = l.tensor;
      cache = l.cache;
      same_length = l.same_length ∙ k.same_length;
      outside = λ p low out. l.outside p low out ∙ k.outside p low out;
      files = record {
        tells = l.files.tells ∙ k.files.tells;
        begins = λ name. l.files.begins name ∙ k.files.begins name;
        same = λ name ne fs told hs now.
            let mid = told_between x.files files fs k.files.tells told in
            l.files.same name ne mid.0 mid.1 hs now ∙ k.files.same name ne fs told mid.0 mid.1;
      };
    }

pub continued_on : (x y z : Workspace) → IsKept x y → IsContinued x y → IsContinued y z → IsContinued x z
continued_on x y z k i j =
    let e = named x y k in go y.words y.cache.held y.cache.touches y.files (subst (λ w. IsKept x w) e k) (subst (λ w. IsContinued x w) e i) (subst (λ w. IsContinued w z) e j)
  where
    go : (words : List ℕ) (held : List Held) (touches : ℕ) (files : Option Files) → IsKept x (touched_to x words held touches files)
        → IsContinued x (touched_to x words held touches files) → IsContinued (touched_to x words held touches files) z → IsContinued x z
    go words held touches files k i j = record {
      fronts = λ fs told hs now n a at.
          let mid = told_between x.files files fs k.files.tells told in
          j.fronts mid.0 mid.1 hs now n a at ∙ i.fronts fs told mid.0 mid.1 n a at;
      bytes = λ fs told hs now n a at is.
          let mid = told_between x.files files fs k.files.tells told in
          j.bytes mid.0 mid.1 hs now n a at (i.bytes fs told mid.0 mid.1 n a at is);
      padding = λ fs told hs now tile p pad.
          let mid = told_between x.files files fs k.files.tells told in
          j.padding mid.0 mid.1 hs now tile p pad ∙ i.padding fs told mid.0 mid.1 tile p pad;
    }

-- ---- runners

pub later_own : (x : Workspace) (failed : Bool) → IsLater x x failed failed
later_own x failed = record { kept = kept_own x; failed = λ e. e; continued = λ e. continued_own x }

not_failed : (a b : Bool) → (a ≡ true → b ≡ true) → b ≡ false → a ≡ false
not_failed true b h e = absurd (true≢false (sym (h refl) ∙ e))
not_failed false b h e = refl

pub later_on : (x y z : Workspace) (a b c : Bool) → IsLater x y a b → IsLater y z b c → IsLater x z a c
later_on x y z a b c i j = record {
  kept = kept_on x y z i.kept j.kept;
  failed = λ e. j.failed (i.failed e);
  continued = λ e. continued_on x y z i.kept (i.continued (not_failed b c j.failed e)) (j.continued e);
}
