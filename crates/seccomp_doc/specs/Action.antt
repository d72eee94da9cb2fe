-- Actions: their names, their numbers and their order.
use Rattle.std.specs.Prelude.{ℕ, List, [], ◌∷◌, Bool, true, false, Option, Some, None, ◌&&◌, ◌==◌}
use Rattle.std.specs.Prelude.{unwrap_or, if◌then◌else◌, find, bytes_eq, codes}
use Rattle.seccomp_doc.specs.declared.action.ActionWord.{ActionWord}
use Rattle.seccomp_doc.specs.declared.action.ActionWord.TheVariants as words
use Rattle.seccomp_doc.specs.declared.action.Action.{Action}
use Rattle.seccomp_doc.specs.declared.action.Action.TheVariants as actions

-- each name, as libseccomp spells it
abbrev pub action_word_text : ActionWord → List ℕ
action_word_text words.KillProcess = codes "SCMP_ACT_KILL_PROCESS"
action_word_text words.KillThread = codes "SCMP_ACT_KILL_THREAD"
action_word_text words.Trap = codes "SCMP_ACT_TRAP"
action_word_text words.Errno = codes "SCMP_ACT_ERRNO"
action_word_text words.Trace = codes "SCMP_ACT_TRACE"
action_word_text words.Log = codes "SCMP_ACT_LOG"
action_word_text words.Allow = codes "SCMP_ACT_ALLOW"

abbrev pub action_words : List ActionWord
action_words = words.KillProcess ∷ words.KillThread ∷ words.Trap ∷ words.Errno ∷ words.Trace
    ∷ words.Log ∷ words.Allow ∷ []

-- the action of a name; the older name of KillThread is read too
unfoldable pub action_word_named : List ℕ → Option ActionWord
action_word_named text =
    if bytes_eq text (codes "SCMP_ACT_KILL") then Some words.KillThread
    else find (λ word. bytes_eq text (action_word_text word)) action_words

-- the actions that carry a number
abbrev pub takes_errno : ActionWord → Bool
takes_errno words.Errno = true
takes_errno words.Trace = true
takes_errno _ = false

-- the name of an action
abbrev pub word_of : Action → ActionWord
word_of actions.KillProcess = words.KillProcess
word_of actions.KillThread = words.KillThread
word_of actions.Trap = words.Trap
word_of (actions.Errno number) = words.Errno
word_of (actions.Trace number) = words.Trace
word_of actions.Log = words.Log
word_of actions.Allow = words.Allow

-- the number that an action carries
abbrev pub errno_of : Action → Option ℕ
errno_of (actions.Errno number) = Some number
errno_of (actions.Trace number) = Some number
errno_of _ = None

-- the strictest first, as in seccomp(2)
abbrev pub rank_of : Action → ℕ
rank_of actions.KillProcess = 0
rank_of actions.KillThread = 1
rank_of actions.Trap = 2
rank_of (actions.Errno number) = 3
rank_of (actions.Trace number) = 4
rank_of actions.Log = 5
rank_of actions.Allow = 6

-- two actions have one name and one number
abbrev pub same_action : Action → Action → Bool
same_action a b = rank_of a == rank_of b && unwrap_or (errno_of a) 0 == unwrap_or (errno_of b) 0
