-- Two sheets, written out.
use Rattle.std.specs.Prelude.{ℕ, List, [], ◌∷◌, true, false, Some, None, codes, replicate}
use Rattle.std.specs.Int.RustNames.{bit_or}
use Rattle.std.specs.List.{range_with_len}
use Rattle.std.proofs.Common.{inl, inr}
use Rattle.cap_sets.specs.Capability.{Has, single}
use Rattle.cap_sets.specs.declared.state.CapState.{CapState}
use Rattle.cap_sets.proofs.Bits.{none_in_zero, or_from_either}
use Rattle.seccomp_doc.specs.declared.action.Action.TheVariants.{Allow, Errno, KillProcess, Trace}
use Rattle.seccomp_doc.specs.declared.compare.Op.TheVariants.{GreaterThan, MaskedEqual}
use Rattle.seccomp_doc.specs.Filter.{FilterValue}
use Rattle.profile_text.specs.Profile.{closed_profile, no_caps}
use Rattle.office_words.specs.declared.revision.State.TheVariants.{Open, Issued}
use Rattle.review_sheet.specs.Facts.{SheetValue}

-- ---- without capabilities and without a filter

-- a profile without capabilities and without a filter, against the closed one, with two approvals
abbrev pub bare : SheetValue
bare = record {
  team = codes "blue";
  profile = codes "web";
  number = 1;
  state = Open;
  digest = replicate 32 171;
  baseline = None;
  base = closed_profile;
  shown = record { caps = no_caps; filter = None };
  listed = 0;
  votes =
      record { voter = codes "rev"; approve = true; security = false; counts = true }
      ∷ record { voter = codes "sue"; approve = true; security = true; counts = true }
      ∷ [];
}

abbrev pub bare_lines : List (List ℕ)
bare_lines =
    codes "REVIEW SHEET"
    ∷ codes "team: blue"
    ∷ codes "profile: web"
    ∷ codes "revision: 1"
    ∷ codes "state: open"
    ∷ codes "digest: abababababababababababababababababababababababababababababababab"
    ∷ codes "baseline: closed"
    ∷ codes "effective: none"
    ∷ codes "permitted: none"
    ∷ codes "inheritable: none"
    ∷ codes "bounding: none"
    ∷ codes "ambient: none"
    ∷ codes "plain permitted: none"
    ∷ codes "plain effective: none"
    ∷ codes "plain ambient: none"
    ∷ codes "root permitted: none"
    ∷ codes "root effective: none"
    ∷ codes "root ambient: none"
    ∷ codes "seccomp: none"
    ∷ codes "findings: 1"
    ∷ codes "  no-seccomp"
    ∷ codes "listed: none"
    ∷ codes "need: 2 with security"
    ∷ codes "votes: 2"
    ∷ codes "  rev approve"
    ∷ codes "  sue approve security"
    ∷ codes "approvals: 2"
    ∷ codes "rejections: 0"
    ∷ []

-- ---- with each part

abbrev pub chown : ℕ
chown = single 0

abbrev pub bind_service : ℕ
bind_service = single 10

abbrev pub net_admin : ℕ
net_admin = single 12

abbrev pub net_raw : ℕ
net_raw = single 13

abbrev pub sys_admin : ℕ
sys_admin = single 21

-- permitted is what is effective or ambient, and inheritable that and one more
abbrev pub shown_caps : CapState
shown_caps = record {
  effective = net_raw;
  permitted = permitted;
  inheritable = bit_or permitted chown;
  bounding = bit_or bind_service sys_admin;
  ambient = bind_service;
  lawful = record {
    effective_permitted = λ n h. or_from_either net_raw bind_service n (inl h);
    ambient_permitted = λ n h. is_permitted n h;
    ambient_inheritable = λ n h. or_from_either permitted chown n (inl (is_permitted n h));
  };
}
  where
    permitted : ℕ
    permitted = bit_or net_raw bind_service

    is_permitted : (n : ℕ) → Has bind_service n → Has permitted n
    is_permitted n h = or_from_either net_raw bind_service n (inr h)

-- each of its sets lacks one of those
abbrev pub base_caps : CapState
base_caps = record {
  effective = 0;
  permitted = bind_service;
  inheritable = bit_or net_raw bind_service;
  bounding = bind_service;
  ambient = 0;
  lawful = record {
    effective_permitted = λ n h. absurd (none_in_zero n h);
    ambient_permitted = λ n h. absurd (none_in_zero n h);
    ambient_inheritable = λ n h. absurd (none_in_zero n h);
  };
}

-- two names are of no entry of the baseline, and the others permit no more than it does
abbrev pub shown_filter : FilterValue
shown_filter = record {
  default = Trace 9;
  architectures = codes "SCMP_ARCH_X86_64" ∷ codes "SCMP_ARCH_AARCH64" ∷ [];
  flags = codes "SECCOMP_FILTER_FLAG_LOG" ∷ codes "SECCOMP_FILTER_FLAG_SPEC_ALLOW" ∷ [];
  entries =
      record {
        names = codes "unshare" ∷ codes "clone" ∷ [];
        action = Allow;
        args =
            record { index = 3; op = GreaterThan; value = 5; value_two = 0 }
            ∷ record { index = 0; op = MaskedEqual; value = 2114060288; value_two = 131072 }
            ∷ [];
      }
      ∷ record { names = codes "read" ∷ []; action = Allow; args = [] }
      ∷ record { names = codes "ptrace" ∷ []; action = KillProcess; args = [] }
      ∷ [];
}

abbrev pub base_filter : FilterValue
base_filter = record {
  default = Errno 1;
  architectures = codes "SCMP_ARCH_X86_64" ∷ [];
  flags = codes "SECCOMP_FILTER_FLAG_LOG" ∷ [];
  entries = record { names = codes "read" ∷ []; action = Allow; args = [] } ∷ [];
}

-- five distinct sets and a filter, against an adopted revision, with votes that count and lapse
abbrev pub detailed : SheetValue
detailed = record {
  team = codes "red";
  profile = codes "api-2";
  number = 17;
  state = Issued;
  digest = range_with_len 160 32;
  baseline = Some (codes "web", 3);
  base = record { caps = base_caps; filter = Some base_filter };
  shown = record { caps = shown_caps; filter = Some shown_filter };
  listed = bit_or sys_admin (bit_or net_raw net_admin);
  votes =
      record { voter = codes "ann"; approve = false; security = false; counts = true }
      ∷ record { voter = codes "ben"; approve = true; security = false; counts = false }
      ∷ record { voter = codes "cat"; approve = true; security = false; counts = true }
      ∷ record { voter = codes "dee"; approve = true; security = true; counts = true }
      ∷ record { voter = codes "eve"; approve = false; security = false; counts = false }
      ∷ [];
}

abbrev pub detailed_lines : List (List ℕ)
detailed_lines =
    codes "REVIEW SHEET"
    ∷ codes "team: red"
    ∷ codes "profile: api-2"
    ∷ codes "revision: 17"
    ∷ codes "state: issued"
    ∷ codes "digest: a0a1a2a3a4a5a6a7a8a9aaabacadaeafb0b1b2b3b4b5b6b7b8b9babbbcbdbebf"
    ∷ codes "baseline: web 3"
    ∷ codes "effective: CAP_NET_RAW"
    ∷ codes "permitted: CAP_NET_BIND_SERVICE CAP_NET_RAW"
    ∷ codes "inheritable: CAP_CHOWN CAP_NET_BIND_SERVICE CAP_NET_RAW"
    ∷ codes "bounding: CAP_NET_BIND_SERVICE CAP_SYS_ADMIN"
    ∷ codes "ambient: CAP_NET_BIND_SERVICE"
    ∷ codes "plain permitted: CAP_NET_BIND_SERVICE"
    ∷ codes "plain effective: CAP_NET_BIND_SERVICE"
    ∷ codes "plain ambient: CAP_NET_BIND_SERVICE"
    ∷ codes "root permitted: CAP_CHOWN CAP_NET_BIND_SERVICE CAP_NET_RAW CAP_SYS_ADMIN"
    ∷ codes "root effective: CAP_CHOWN CAP_NET_BIND_SERVICE CAP_NET_RAW CAP_SYS_ADMIN"
    ∷ codes "root ambient: CAP_NET_BIND_SERVICE"
    ∷ codes "seccomp: SCMP_ACT_TRACE 9"
    ∷ codes "architectures: SCMP_ARCH_X86_64 SCMP_ARCH_AARCH64"
    ∷ codes "flags: SECCOMP_FILTER_FLAG_LOG SECCOMP_FILTER_FLAG_SPEC_ALLOW"
    ∷ codes "entries: 3"
    ∷ codes "entry 1: SCMP_ACT_ALLOW"
    ∷ codes "  names: unshare clone"
    ∷ codes "  arg 3: SCMP_CMP_GT 5"
    ∷ codes "  arg 0: SCMP_CMP_MASKED_EQ 2114060288 131072"
    ∷ codes "entry 2: SCMP_ACT_ALLOW"
    ∷ codes "  names: read"
    ∷ codes "entry 3: SCMP_ACT_KILL_PROCESS"
    ∷ codes "  names: ptrace"
    ∷ codes "findings: 10"
    ∷ codes "  capability effective CAP_NET_RAW"
    ∷ codes "  capability permitted CAP_NET_RAW"
    ∷ codes "  capability inheritable CAP_CHOWN"
    ∷ codes "  capability bounding CAP_SYS_ADMIN"
    ∷ codes "  capability ambient CAP_NET_BIND_SERVICE"
    ∷ codes "  architecture SCMP_ARCH_AARCH64"
    ∷ codes "  flag SECCOMP_FILTER_FLAG_SPEC_ALLOW"
    ∷ codes "  call clone"
    ∷ codes "  call unshare"
    ∷ codes "  default"
    ∷ codes "listed: CAP_NET_RAW CAP_SYS_ADMIN"
    ∷ codes "need: 2 with security"
    ∷ codes "votes: 5"
    ∷ codes "  ann reject"
    ∷ codes "  ben approve lapsed"
    ∷ codes "  cat approve"
    ∷ codes "  dee approve security"
    ∷ codes "  eve reject lapsed"
    ∷ codes "approvals: 2"
    ∷ codes "rejections: 1"
    ∷ []

-- ---- lines of votes

-- approvals, a rejection, and votes that lapsed
abbrev pub examples_of_votes : List (List ℕ)
examples_of_votes =
    codes "  ann approve"
    ∷ codes "  ben approve security"
    ∷ codes "  cat reject"
    ∷ codes "  dee approve lapsed"
    ∷ codes "  eve reject lapsed"
    ∷ []
