-- What is sealed in a file that a crash left of a journal.
use Rattle.std.specs.Prelude.{◌⊎◌, ℕ, List, [], ◌∷◌, ◌++◌, Option, Some, None}
use Rattle.std.proofs.Common.{inl, inr}
use Rattle.sealed_log.specs.Told.{HasNoOther}
use Rattle.office_policy.specs.History.{Event, History}
use Rattle.journal.specs.Lines.{done, happened, strike, text_of}
use Rattle.journal.specs.Begun.{IsBegun, IsLeftOf, done_bodies, with_event}
use Rattle.journal.specs.Writing.{IsLeftIn}

-- behind the bodies no line is sealed but that of this body, and of the one before it that says that
-- the last event is carried out, where that has this number
abbrev pub HasOwnLines : List (List ℕ) → Option ℕ → List ℕ → List ℕ → Type 0
HasOwnLines bodies None body file = HasNoOther bodies body file
HasOwnLines bodies (Some number) body file =
    HasNoOther bodies (text_of (done number)) file
    × HasNoOther (bodies ++ text_of (done number) ∷ []) body file

-- behind the bodies before it no line is sealed but those that were being written
abbrev pub HasOwnLine : (h : History) (event : Event) (file : List ℕ) (b : IsBegun h event file)
    → IsLeftIn b.before (done_bodies b.settling) (text_of (happened event)) file
    ⊎ IsLeftIn (with_event (b.before ++ done_bodies b.settling) event) [] (text_of strike) file
    → Type 0
HasOwnLine h event file b (inl line) =
    HasOwnLines b.before b.settling (text_of (happened event)) file
HasOwnLine h event file b (inr struck) =
    HasNoOther (with_event (b.before ++ done_bodies b.settling) event) (text_of strike) file

abbrev pub HasOwn : (h : History) (file : List ℕ) → IsLeftOf h file → Type 0
HasOwn h file (inl journal) = Unit {0}
HasOwn h file (inr (inl (event, b))) = HasOwnLine h event file b b.left
HasOwn h file (inr (inr e)) = HasNoOther e.before (text_of (done e.number)) file
