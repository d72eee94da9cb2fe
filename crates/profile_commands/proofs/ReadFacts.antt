-- What the bytes of a file read as.
use Rattle.std.proofs.Common.{◌≡◌, ◌∙◌, ℕ, ◌<◌, List, [], ◌++◌, Option, None, Some, IfSome, Ok, Err, length, length-append, append-nil, refl, sym, ap, arith, inl, inr, lt-ltb}
use Rattle.std.specs.Io.KnownBytes.{Consumes, IsAtEnd}
use Rattle.std.proofs.lemmas.Bool.{cases_lt}
use Rattle.std.specs.Prelude.{String, string_bytes}
use Rattle.std.specs.declared.alloc.Global.{Global}
use Rattle.profile_text.specs.declared.fault.DocFault.{DocFault}
use Rattle.profile_text.specs.declared.fault.DocFault.TheVariants.{NotJson, TooLong}
use Rattle.profile_text.specs.declared.profile.Profile.{Profile}
use Rattle.profile_text.specs.Reading.{Gives, reading_of, stored_reading_of, most_bytes}
use Rattle.profile_commands.specs.declared.document.TheConstants.{MOST_BYTES}
use Rattle.profile_commands.specs.declared.fault.FileFault.{FileFault}
use Rattle.profile_commands.specs.declared.fault.FileFault.TheVariants as file
use Rattle.profile_commands.specs.declared.execution.Execution.{Execution}
use Rattle.profile_commands.specs.declared.execve.ExecveOutcome.{ExecveOutcome}
use Rattle.profile_commands.specs.Comparing.{IsCompared}
use Rattle.profile_commands.specs.Executions.{IsExecuted}
use Rattle.profile_commands.specs.Refusal.{IsChecked, IsOfNoJson, IsRefusalOf, RefusesAs}
use Rattle.review_sheet.specs.Review.{findings_text}
use Rattle.widening.specs.Findings.{findings_of}

-- bytes that are too many are no document
too_long : (bytes : List ℕ) → most_bytes < length bytes → reading_of bytes ≡ Err TooLong
unfolding reading_of stored_reading_of
too_long bytes more = rw (lt-ltb most_bytes (length bytes) more) refl

-- what was read of a file, all of it or its first 262,145 bytes, reads as the file does
same_reading : (all bytes rest : List ℕ) → all ≡ bytes ++ rest → (length bytes < MOST_BYTES → rest ≡ []) → reading_of all ≡ reading_of bytes
same_reading all bytes rest parts end = elim (cases_lt (length bytes) MOST_BYTES) [
  | inl short ↦ ap reading_of (parts ∙ ap (λ l. bytes ++ l) (end short) ∙ append-nil bytes)
  | inr long ↦
      let more : most_bytes < length bytes = omega arith in
      let all_more : most_bytes < length all = omega (arith, ap length parts, length-append bytes rest) in
      too_long all all_more ∙ sym (too_long bytes more)
]

-- the same of a reader whose bytes are known
pub read_whole : (old new : Option (List ℕ)) (bytes : List ℕ) → Consumes old new bytes → (length bytes < MOST_BYTES → IsAtEnd new)
    → IfSome old (λ all. reading_of all ≡ reading_of bytes)
read_whole None new bytes consumed end = tt
read_whole (Some all) None bytes consumed end = absurd consumed
read_whole (Some all) (Some rest) bytes consumed end = same_reading all bytes rest consumed end

-- ---- faults of bytes

-- a fault of bytes is reported as it must be
pub refuses_as : (bytes : List ℕ) (fault : DocFault) (refusal : FileFault) → Gives {X = Profile} (Err fault) (reading_of bytes) → IsRefusalOf fault refusal
    → RefusesAs bytes refusal
refuses_as bytes fault refusal gives (inl (memory, told)) = rw told tt
refuses_as bytes fault refusal (inl memory) (inr (other, told)) = absurd (other memory)
refuses_as bytes fault refusal (inr reads) (inr (other, told)) = rw told reads

-- bytes that are no JSON are refused as such, with a place or without one
pub no_json_as : (bytes : List ℕ) (refusal : FileFault) → Gives {X = Profile} (Err NotJson) (reading_of bytes) → IsOfNoJson refusal → RefusesAs bytes refusal
no_json_as bytes refusal (inl memory) is = absurd cc
no_json_as bytes (file.NotJson place) (inr reads) is = reads
no_json_as bytes (file.Document NotJson) (inr reads) is = reads
no_json_as bytes refusal (inr reads) is = absurd is

-- ---- a file that was read so far

pub checked_of : (known : Option (List ℕ)) (bytes : List ℕ) (text : String Global) → IfSome known (λ all. reading_of all ≡ reading_of bytes) → IsChecked bytes (Ok text)
    → IfSome known (λ all. IsChecked all (Ok text))
checked_of None bytes text same checked = tt
checked_of (Some all) bytes text same checked = (checked.0, same ∙ checked.1, checked.2)

pub executed_of : (known : Option (List ℕ)) (bytes : List ℕ) (execution : Execution) (outcome : ExecveOutcome) → IfSome known (λ all. reading_of all ≡ reading_of bytes)
    → IsExecuted execution bytes (Ok outcome) → IfSome known (λ all. IsExecuted execution all (Ok outcome))
executed_of None bytes execution outcome same executed = tt
executed_of (Some all) bytes execution outcome same executed = (executed.0, same ∙ executed.1, executed.2)

pub compared_of : (base_known new_known : Option (List ℕ)) (old shown : Profile) (text : String Global) → IfSome base_known (λ all. reading_of all ≡ Ok old)
    → IfSome new_known (λ all. reading_of all ≡ Ok shown) → string_bytes text ≡ findings_text (findings_of old shown)
    → IfSome base_known (λ b. IfSome new_known (λ s. IsCompared b s text))
compared_of None new_known old shown text reads_base reads_new is = tt
compared_of (Some b) None old shown text reads_base reads_new is = tt
compared_of (Some b) (Some s) old shown text reads_base reads_new is = (old, shown, reads_base, reads_new, is)
