-- What `dtr` prints, as functions of the values that it prints, and what replies tell it.

-- What is promised.
pub mod Limits
pub mod Escaping
pub mod Columns
pub mod Parts
pub mod Picture
pub mod Distribution
pub mod Rows
pub mod Records
pub mod Unknown
pub mod Replies
pub mod Refusals
pub mod Sentences
pub mod Probes
pub mod Tables
pub mod Printed
-- The code's values without where they lie in memory, in which promises name them.
pub mod PictureForms
pub mod CountForms
pub mod RowForms
pub mod RefusalForms
pub mod TableForms
