-- Going: what stays true from record to record of a pass. ReadIs: the laws of what `read` promises.
pub mod Going
pub mod ReadIs
pub mod FileTables
