-- How the steps of a replay are written.
use Rattle.std.specs.Prelude.{◌≡◌, ℕ, ◌^◌, ◌<◌, List, ◌++◌, codes, decimal}
use Rattle.dt_chain.specs.Limits.{seat_count}
use Rattle.dt_world.specs.declared.step_line.StepLine.{StepLine}
use Rattle.dt_world.specs.declared.step_line.StepLine.TheVariants.{Open, Close, Withdraw, Ask, Publish, Finish, Look}
use Rattle.dt_world.specs.declared.step_line.StepLine.TheVariants.{Offer, Call, Fire}

-- a step line without where it lies in memory
pub data StepLineForm : Type 0 where
  open_line : (seat : ℕ) (account : List ℕ) → StepLineForm
  close_line : (seat : ℕ) → StepLineForm
  withdraw_line : (seat : ℕ) → StepLineForm
  ask_line : (seat : ℕ) (line : List ℕ) → StepLineForm
  publish_line : (seat : ℕ) → StepLineForm
  finish_line : (seat : ℕ) → StepLineForm
  look_line : (cpu : ℕ) → StepLineForm
  offer_line : (cpu seat : ℕ) → StepLineForm
  call_line : (seat : ℕ) (line : List ℕ) → StepLineForm
  fire_line : (cpu : ℕ) → StepLineForm

abbrev pub form_of_step_line : StepLine → StepLineForm
form_of_step_line (Open seat account) = open_line seat account.now
form_of_step_line (Close seat) = close_line seat
form_of_step_line (Withdraw seat) = withdraw_line seat
form_of_step_line (Ask seat line) = ask_line seat line.now
form_of_step_line (Publish seat) = publish_line seat
form_of_step_line (Finish seat) = finish_line seat
form_of_step_line (Look cpu) = look_line cpu
form_of_step_line (Offer cpu seat) = offer_line cpu seat
form_of_step_line (Call seat line) = call_line seat line.now
form_of_step_line (Fire cpu) = fire_line cpu

-- The words stand one blank apart. The account and the consumer's line are the rest, whatever its bytes; a number is
-- decimal, without a leading zero.
abbrev pub step_line_text : StepLineForm → List ℕ
step_line_text (open_line seat account) = codes "open " ++ (decimal seat ++ (codes " " ++ account))
step_line_text (close_line seat) = codes "close " ++ decimal seat
step_line_text (withdraw_line seat) = codes "withdraw " ++ decimal seat
step_line_text (ask_line seat line) = codes "ask " ++ (decimal seat ++ (codes " " ++ line))
step_line_text (publish_line seat) = codes "publish " ++ decimal seat
step_line_text (finish_line seat) = codes "finish " ++ decimal seat
step_line_text (look_line cpu) = codes "look " ++ decimal cpu
step_line_text (offer_line cpu seat) = codes "offer " ++ (decimal cpu ++ (codes " " ++ decimal seat))
step_line_text (call_line seat line) = codes "call " ++ (decimal seat ++ (codes " " ++ line))
step_line_text (fire_line cpu) = codes "fire " ++ decimal cpu

-- a seat is one that there is, a processor has a number of 32 bits
abbrev pub IsWritableStep : StepLineForm → Type 0
IsWritableStep (open_line seat account) = seat < seat_count
IsWritableStep (close_line seat) = seat < seat_count
IsWritableStep (withdraw_line seat) = seat < seat_count
IsWritableStep (ask_line seat line) = seat < seat_count
IsWritableStep (publish_line seat) = seat < seat_count
IsWritableStep (finish_line seat) = seat < seat_count
IsWritableStep (look_line cpu) = cpu < 2 ^ 32
IsWritableStep (offer_line cpu seat) = (cpu < 2 ^ 32) × (seat < seat_count)
IsWritableStep (call_line seat line) = seat < seat_count
IsWritableStep (fire_line cpu) = cpu < 2 ^ 32

-- The text is the line of this step.
pub record SpellsStepLine (text : List ℕ) (line : StepLineForm) : Type 0 where
  pub writable : IsWritableStep line
  pub spelled : text ≡ step_line_text line
