-- The refusals: the number and the name of each.
use Rattle.std.specs.Prelude.{ℕ, List, codes}
use Rattle.answers.specs.declared.refusal.Refusal.{Refusal}
use Rattle.answers.specs.declared.refusal.Refusal.TheVariants.{WorkTooShort, OutOfBounds, StoreOff, BurstTooLong, Framing, OctetAlign, FcsFail, CborParse, Indefinite, NotDeterministic, Schema, ProfileMismatch, SizeLimit, ContextMismatch, KidUnknown, SignatureLength, AuthFail, Replay, Expired, ExpTooFar, UnknownCommand, BadArguments, AllowlistDeny, DuoPolicyUnknown, NoRoom, NotRaised, MessageTooLong, OutputTooShort}

-- the number of each refusal, as it is answered
abbrev pub number_of : Refusal → ℕ
number_of WorkTooShort = 1
number_of OutOfBounds = 2
number_of StoreOff = 3
number_of BurstTooLong = 4
number_of Framing = 5
number_of OctetAlign = 6
number_of FcsFail = 7
number_of CborParse = 8
number_of Indefinite = 9
number_of NotDeterministic = 10
number_of Schema = 11
number_of ProfileMismatch = 12
number_of SizeLimit = 13
number_of ContextMismatch = 14
number_of KidUnknown = 15
number_of SignatureLength = 16
number_of AuthFail = 17
number_of Replay = 18
number_of Expired = 19
number_of ExpTooFar = 20
number_of UnknownCommand = 21
number_of BadArguments = 22
number_of AllowlistDeny = 23
number_of DuoPolicyUnknown = 24
number_of NoRoom = 25
number_of NotRaised = 26
number_of MessageTooLong = 27
number_of OutputTooShort = 28

-- the name of each, in ASCII
abbrev pub name_of : Refusal → List ℕ
name_of WorkTooShort = codes "WORK_TOO_SHORT"
name_of OutOfBounds = codes "OUT_OF_BOUNDS"
name_of StoreOff = codes "STORE_OFF"
name_of BurstTooLong = codes "BURST_TOO_LONG"
name_of Framing = codes "L2_FRAMING"
name_of OctetAlign = codes "OCTET_ALIGN"
name_of FcsFail = codes "FCS_FAIL"
name_of CborParse = codes "CBOR_PARSE"
name_of Indefinite = codes "INDEFINITE"
name_of NotDeterministic = codes "NOT_DET"
name_of Schema = codes "CBOR_PARSE"
name_of ProfileMismatch = codes "PROFILE_MISMATCH"
name_of SizeLimit = codes "SIZE_LIMIT"
name_of ContextMismatch = codes "CTX_MISMATCH"
name_of KidUnknown = codes "KID_UNKNOWN"
name_of SignatureLength = codes "SIG_LEN"
name_of AuthFail = codes "AUTH_FAIL"
name_of Replay = codes "REPLAY"
name_of Expired = codes "EXPIRED"
name_of ExpTooFar = codes "EXP_TOO_FAR"
name_of UnknownCommand = codes "UNKNOWN_CMD"
name_of BadArguments = codes "BAD_ARGS"
name_of AllowlistDeny = codes "ALLOWLIST_DENY"
name_of DuoPolicyUnknown = codes "DUO_POLICY_UNKNOWN"
name_of NoRoom = codes "NO_ROOM"
name_of NotRaised = codes "NOT_RAISED"
name_of MessageTooLong = codes "MESSAGE_TOO_LONG"
name_of OutputTooShort = codes "OUTPUT_TOO_SHORT"
