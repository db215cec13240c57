-- A device that fails at stated calls.
use Rattle.std.specs.Prelude.{ℕ, ◌+◌, ◌^◌, List, Bool, nat_eq, nat_lt, if◌then◌else◌, refl}
use Rattle.std.specs.Coded.{Coded, code_by, coded×, coded_ℕ, coded_list}
use Rattle.std.specs.FinMap as map
use Rattle.std.specs.List.{list_any}
use Rattle.tce_outside.specs.Files.{Files}

-- the numbers of the calls that fail, the number of the next call, and how many calls have failed
pub record Schedule : Type 0 where
  pub failing : List ℕ
  pub next_call : ℕ
  pub faults : ℕ

-- one more, but where that is no number of 64 bits
abbrev pub one_more : ℕ → ℕ
one_more n = (if nat_lt (n + 1) (2 ^ 64) then n + 1 else n)

-- before the first call
abbrev pub new_schedule : List ℕ → Schedule
new_schedule failing = record { failing = failing; next_call = 0; faults = 0 }

-- whether the next call fails: its number is in the list
abbrev pub fails_next : Schedule → Bool
fails_next s = list_any (λ n. nat_eq n s.next_call) s.failing

-- after one more call, which is counted as a fault where it fails
abbrev pub after_call : Schedule → Schedule
after_call s = record { failing = s.failing; next_call = one_more s.next_call; faults = (if fails_next s then one_more s.faults else s.faults) }

-- the files of a disk that fails at stated calls
pub record FaultyFiles : Type 0 where
  pub files : Files
  pub schedule : Schedule

-- the bytes put into a sink that fails at stated calls
pub record FaultyBytes : Type 0 where
  pub bytes : List ℕ
  pub schedule : Schedule

-- how the two are stored in proofs
abbrev pub schedule_code : Coded Schedule
schedule_code =
    code_by (List ℕ × (ℕ × ℕ)) (coded× (coded_list coded_ℕ) (coded× coded_ℕ coded_ℕ))
    (λ s. (s.failing, (s.next_call, s.faults))) (λ p. record { failing = p.0; next_call = p.1.0; faults = p.1.1 }) (λ _. refl)

abbrev pub faulty_files_code : Coded FaultyFiles
faulty_files_code =
    code_by (Files × Schedule) (coded× (map.code (coded_list coded_ℕ) (coded_list coded_ℕ)) schedule_code)
    (λ d. (d.files, d.schedule)) (λ p. record { files = p.0; schedule = p.1 }) (λ _. refl)
