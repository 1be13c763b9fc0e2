mod Ascend
mod Documents
mod Faultless
mod Gathered
mod Joined
mod Normal
mod Places
mod UnitedNormal
